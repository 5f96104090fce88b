pub mod Events
pub mod Found
pub mod Heard
pub mod Skips
pub mod SlotStates
pub mod Places
pub mod Requests
pub mod Effects
