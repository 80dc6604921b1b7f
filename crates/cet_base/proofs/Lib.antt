pub mod Digits
pub mod ReadLemmas
pub mod SinkLemmas
pub mod SpanLemmas
