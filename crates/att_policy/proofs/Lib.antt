pub mod Heard
pub mod RulesInOrder
