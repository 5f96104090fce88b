pub mod SavedState
pub mod StateText
pub mod Reading
pub mod State
pub mod ReadBack
pub mod StateFault
