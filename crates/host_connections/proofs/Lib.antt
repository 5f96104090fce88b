pub mod Quiet
pub mod Bonds
pub mod Confirming
mod Served
pub mod states
pub mod FirstPlace
pub mod Found
mod SlotBits
pub mod Covering
pub mod Uncovered
pub mod HeardMarks
mod OneByOne
pub mod Alone
pub mod AtPlace
pub mod InTurn
pub mod Noted
mod Late
pub mod Seen
pub mod OfTable
pub mod Skipping
