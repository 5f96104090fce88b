pub mod Added
pub mod Attributes
pub mod Keyed
pub mod Sizes
pub mod Standings
pub mod Subscribing
