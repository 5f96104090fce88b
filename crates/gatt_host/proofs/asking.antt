pub mod Calls
pub mod OfItsTable
