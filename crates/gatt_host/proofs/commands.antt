pub mod Commands
pub mod CommandsFirst
pub mod SlotCommands
pub mod Readies
