pub mod Broken
pub mod Bytes
pub mod Cuts
pub mod Firsts
pub mod Marks
pub mod Positions
pub mod Windows
