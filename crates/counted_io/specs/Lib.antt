pub mod Faults
pub mod Streams
pub mod Counting
pub mod ReaderScript
pub mod SinkScript
