pub mod Entries
pub mod Lines
pub mod Steps
pub mod Unique
pub mod Divisions
pub mod Waiting
