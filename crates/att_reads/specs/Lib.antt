pub mod Access
pub mod Answer
pub mod List
pub mod Listing
pub mod Refusals
