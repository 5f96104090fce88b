pub mod Saves
pub mod TypeText
pub mod SavedValue
pub mod ValuesText
pub mod Restore
pub mod ReadBack
