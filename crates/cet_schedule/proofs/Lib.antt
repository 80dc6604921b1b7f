pub mod Counts
pub mod Digits
pub mod Limits
pub mod Lines
pub mod Parts
