pub mod AttributeType
pub mod ErrorCode
pub mod Types
