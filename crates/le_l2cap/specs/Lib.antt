pub mod Frame
pub mod Pairing
pub mod SignallingCommand
