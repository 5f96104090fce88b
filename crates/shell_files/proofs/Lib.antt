pub mod Appending
pub mod Fronts
pub mod Inputs
pub mod Printing
pub mod Reports
pub mod RowsWritten
pub mod Sessions
pub mod Turns
