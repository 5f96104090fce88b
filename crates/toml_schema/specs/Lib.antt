pub mod Reading
pub mod Shape
