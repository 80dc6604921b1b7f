pub mod Frames
pub mod FrameWords
pub mod Delivered
pub mod Returned
pub mod Kept
pub mod Returns
pub mod Room
