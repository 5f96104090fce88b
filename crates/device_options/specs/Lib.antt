pub mod Address
pub mod Advertising
pub mod Numbers
pub mod Options
pub mod Places
