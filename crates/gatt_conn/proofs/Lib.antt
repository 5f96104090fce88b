pub mod Dues
pub mod Prepared
pub mod Transcripts
