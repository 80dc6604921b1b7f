pub mod Mode
pub mod Shape
