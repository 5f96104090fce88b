pub mod Choices
pub mod Parts
pub mod Texts
pub mod Writing
