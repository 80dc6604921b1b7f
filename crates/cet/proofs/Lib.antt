pub mod Asked
pub mod FoundLemmas
pub mod NumberLemmas
pub mod Certified
