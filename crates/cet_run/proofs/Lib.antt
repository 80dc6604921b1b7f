pub mod Choices
pub mod Gained
pub mod Limits
pub mod Runs
