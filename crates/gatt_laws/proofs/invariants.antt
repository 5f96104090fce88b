pub mod Given
pub mod GivenQueue
pub mod Placed
pub mod Queued
pub mod RowsOfTheTable
pub mod Settled
pub mod ValuesOfTheTable
pub mod WaitingOfTheTable
