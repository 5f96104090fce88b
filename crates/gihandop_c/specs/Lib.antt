-- The definitions that contracts cite.
pub mod Boundary
pub mod Explaining
pub mod Files
pub mod Lending
pub mod Opening
pub mod Owned
pub mod Seeing
pub mod Statuses
pub mod Telling
pub mod Values
