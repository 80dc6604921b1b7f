pub mod ExecFile
pub mod ExecSymbols
pub mod Laws
pub mod Layout
pub mod Programs
pub mod Regular
pub mod Written
