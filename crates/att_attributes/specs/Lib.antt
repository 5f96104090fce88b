pub mod Attributes
pub mod Group
pub mod OfType
pub mod TypeIndex
