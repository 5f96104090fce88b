pub mod Verdict
pub mod Links
pub mod Reason
pub mod Answer
