pub mod Answer
pub mod Connection
pub mod Served
pub mod Transcript
