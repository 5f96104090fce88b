pub mod Need
pub mod Policy
pub mod Refusal
