pub mod Blanks
pub mod Keys
pub mod Laws
pub mod Unique
