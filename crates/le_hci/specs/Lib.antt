pub mod Buffers
pub mod Command
pub mod Event
pub mod EventPacket
pub mod Init
pub mod InitOrder
pub mod InitTold
