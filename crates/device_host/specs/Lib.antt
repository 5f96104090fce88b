pub mod Answers
pub mod Changes
pub mod Order
pub mod Silence
pub mod Updates
pub mod Work
