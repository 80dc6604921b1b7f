pub mod Aligned
pub mod Answer
pub mod Returned
pub mod Room
