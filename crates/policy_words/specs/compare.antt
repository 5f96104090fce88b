pub mod Pairing
pub mod Before
pub mod Gains
pub mod Lines
pub mod Changed
pub mod Compared
pub mod Laws
