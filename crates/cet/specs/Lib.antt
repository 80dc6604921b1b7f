pub mod Words
pub mod Command
pub mod Named
pub mod Text
pub mod Certified
