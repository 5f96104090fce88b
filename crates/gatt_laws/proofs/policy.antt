pub mod Headline
pub mod MayBeHeard
pub mod OwnWrites
pub mod Preparing
pub mod Refusals
pub mod Stores
