pub mod Packets
pub mod Lengths
pub mod WholeFrames
pub mod Appended
