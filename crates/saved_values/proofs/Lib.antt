pub mod ValuesBack
pub mod Ascii
pub mod Restored
pub mod Writing
