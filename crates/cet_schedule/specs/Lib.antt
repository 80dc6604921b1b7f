pub mod Entry
pub mod Fields
pub mod Narrowed
pub mod Number
pub mod Schedule
