pub mod Errors
pub mod Inside
pub mod Mapped
pub mod Parts
