pub mod Address
pub mod Entry
pub mod EntryFile
pub mod KeyFault
pub mod KeyFile
pub mod Keys
pub mod Link
