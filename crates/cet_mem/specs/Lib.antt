pub mod Access
pub mod Block
pub mod Holder
pub mod Order
