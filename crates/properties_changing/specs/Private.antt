pub mod Collected
pub mod Counting
pub mod InPlace
