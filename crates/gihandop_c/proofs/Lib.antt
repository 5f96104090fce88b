-- Lemmas of this crate.
pub mod Accepted
pub mod Carried
pub mod OwnFaults
pub mod Pointers
pub mod Refusals
