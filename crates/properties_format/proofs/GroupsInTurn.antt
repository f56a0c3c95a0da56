pub mod Lines
pub mod Merged
