pub mod Lowest
pub mod Plans
pub mod Watching
