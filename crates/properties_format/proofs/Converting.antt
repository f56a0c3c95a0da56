pub mod Units
pub mod Laws
pub mod InAscii
pub mod One
pub mod Again
pub mod Twice
pub mod Chunks
pub mod Itself
