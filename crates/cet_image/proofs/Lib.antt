pub mod Overlaps
pub mod Named
pub mod LayoutLemmas
pub mod Places
pub mod OneList
pub mod SegmentBytes
