pub mod Addresses
pub mod Links
pub mod Peers
pub mod Provisioned
