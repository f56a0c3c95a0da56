pub mod Characters
pub mod Split
pub mod Spans
pub mod Joins
pub mod Escapes
pub mod Units
pub mod Resolving
pub mod Backslashes
