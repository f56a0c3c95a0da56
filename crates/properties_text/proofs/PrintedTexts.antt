pub mod Steps
pub mod Runs
pub mod Keys
pub mod Values
pub mod Readable
