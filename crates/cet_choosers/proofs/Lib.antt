pub mod Asking
pub mod Bits
pub mod Showing
pub mod Threads
pub mod Watched
