pub mod Marking
pub mod Comparing
pub mod Searching
pub mod Rows
pub mod Spreading
