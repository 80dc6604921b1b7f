pub mod Faults
pub mod Field
pub mod Files
pub mod MemFiles
pub mod MemSink
pub mod Sink
pub mod Span
pub mod Text
