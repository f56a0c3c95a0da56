pub mod Bytes
pub mod Characters
pub mod Values
pub mod Escapes
pub mod Vectors
