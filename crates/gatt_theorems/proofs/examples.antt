pub mod Refusals
pub mod Laws
pub mod Answering
pub mod Disclosing
pub mod Sharing
