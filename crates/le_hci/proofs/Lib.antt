pub mod CommandsInOrder
pub mod CompletedEntries
pub mod Fields
pub mod Filling
pub mod HandedBack
pub mod KnownBuffers
pub mod SentEvents
