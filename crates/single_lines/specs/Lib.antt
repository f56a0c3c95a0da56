pub mod DecodeIter
pub mod Joining
pub mod Private
pub mod Lines
