pub mod Name
pub mod Line
pub mod Script
pub mod Phones
