pub mod Contents
pub mod InPlace
pub mod Pushes
pub mod Slots
