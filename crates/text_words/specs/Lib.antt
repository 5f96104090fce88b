pub mod Cells
pub mod Numeral
pub mod Payload
pub mod Split
