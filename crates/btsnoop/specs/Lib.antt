pub mod Capture
pub mod Calls
pub mod Packet
pub mod Record
