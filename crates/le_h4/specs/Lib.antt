pub mod Deframer
pub mod Division
pub mod Gathering
pub mod Held
pub mod Packet
pub mod Progress
pub mod Whole
