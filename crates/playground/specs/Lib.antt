pub mod Fields
pub mod Shown
