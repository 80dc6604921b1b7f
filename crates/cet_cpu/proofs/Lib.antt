pub mod Aligned
pub mod Calls
pub mod Quotients
pub mod Syscalls
