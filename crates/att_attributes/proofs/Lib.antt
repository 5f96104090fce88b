pub mod Groups
pub mod OfType
pub mod Places
pub mod Runs
pub mod Search
pub mod TypeOrder
