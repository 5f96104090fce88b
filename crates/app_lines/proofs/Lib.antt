pub mod Words
pub mod Feeds
pub mod Adding
