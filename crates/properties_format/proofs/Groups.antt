pub mod Input
pub mod Joined
pub mod Logical
pub mod Meets
pub mod Only
pub mod Open
pub mod Steps
