pub mod examples
pub mod invariants
pub mod isolation
pub mod notices
pub mod policy
pub mod runs
