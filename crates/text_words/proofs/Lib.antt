pub mod Blanks
pub mod Digits
pub mod Numerals
pub mod Payloads
