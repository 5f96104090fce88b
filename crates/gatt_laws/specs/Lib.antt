pub mod machine
pub mod laws
