pub use Rattle.cet_isa.specs.Form
pub use Rattle.cet_isa.specs.Decoded
pub use Rattle.cet_isa.specs.Law
pub mod Gives
