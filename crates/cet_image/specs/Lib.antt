pub use Rattle.cet_rules.specs.Raw
pub mod Contents
pub mod Executable
pub mod Faults
pub mod ImageOf
pub mod Lookup
pub mod Laws
