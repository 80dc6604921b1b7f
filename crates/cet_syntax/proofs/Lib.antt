pub mod Digits
pub mod Canonical
pub mod Labels
pub mod Items
pub mod Parts
pub mod LineSteps
