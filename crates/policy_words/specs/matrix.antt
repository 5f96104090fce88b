pub mod Layout
pub mod Rows
pub mod Look
pub mod Shown
pub mod Shared
