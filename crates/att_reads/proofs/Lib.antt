pub mod Alike
pub mod Entries
pub mod Found
pub mod Information
pub mod Listed
pub mod Lists
pub mod Multiple
