pub mod Added
pub mod NoMore
pub mod Naming
pub mod Reading
pub mod Shared
pub mod Subscribing
pub mod VerdictLaw
