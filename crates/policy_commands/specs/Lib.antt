pub mod Keys
pub mod Show
pub mod MayWords
pub mod May
pub mod Compare
pub mod Expect
