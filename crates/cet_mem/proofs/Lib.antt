pub mod Accesses
pub mod Holders
pub mod Orders
pub mod Placing
