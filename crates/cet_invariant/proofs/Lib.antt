pub mod Instructions
pub mod Fetched
pub mod Places
pub mod Cuts
pub mod Decided
pub mod Steps
pub mod Prologue
pub mod Single
pub mod ConstJump
pub mod Entry
pub mod Ends
pub mod Frame
pub mod Started
pub mod Events
mod Misses
