pub mod Append
pub mod Cut
pub mod Meets
pub mod Only
pub mod Plain
pub mod Steps
