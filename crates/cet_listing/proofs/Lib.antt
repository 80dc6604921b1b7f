pub mod Listings
pub mod Prints
pub mod Walks
