pub mod Columns
pub mod Findings
pub mod Held
pub mod Kinds
pub mod Laws
pub mod Needs
pub mod Rights
