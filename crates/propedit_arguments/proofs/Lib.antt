pub mod Assignments
pub mod Words
