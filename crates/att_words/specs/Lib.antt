pub mod Inner
pub mod Worded
