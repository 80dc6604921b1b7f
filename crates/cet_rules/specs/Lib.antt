pub mod Image
pub mod Regular
pub mod Covered
pub mod Piece
pub mod Rule
pub mod First
pub mod Raw
pub mod Report
