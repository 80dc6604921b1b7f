pub mod Note
pub mod Form
pub mod Fault
pub mod FirstFault
pub mod Merged
pub mod Joined
pub mod Laws
pub use Rattle.cet_base.specs.Field as Field
pub use Rattle.byteorder.specs.Endian as Endian
