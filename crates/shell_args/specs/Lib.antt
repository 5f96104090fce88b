pub mod CommandLine
pub mod Refusal
