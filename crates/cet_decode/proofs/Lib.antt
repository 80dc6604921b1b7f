pub mod Pads
pub mod Answers
pub mod Widths
pub mod Falls
