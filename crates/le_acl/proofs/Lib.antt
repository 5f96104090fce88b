pub mod Fragments
pub mod Frames
pub mod Histories
pub mod Rings
pub mod Shares
