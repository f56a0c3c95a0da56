pub mod Byline
pub mod Meets
pub mod Only
pub mod Steps
pub mod ToCome
pub mod Two
pub mod Units
