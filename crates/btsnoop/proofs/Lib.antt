pub mod Alone
pub mod Beginning
pub mod Capturing
pub mod Calls
pub mod Example
