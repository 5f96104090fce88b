pub mod Memory
pub mod Missing
pub mod Number
pub mod Stream
pub mod Streams
pub mod Text
