pub mod Accepted
pub mod Ends
pub mod Handles
pub mod Lent
pub mod LongUuid
