pub mod Filtered
pub mod Holding
pub mod RightNeeds
