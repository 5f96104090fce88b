pub mod Reached
pub mod Sides
