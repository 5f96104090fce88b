pub mod Staying
pub mod Together
pub mod Refining
pub mod Beginning
pub mod Drained
