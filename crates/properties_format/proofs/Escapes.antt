pub mod Digits
pub mod First
pub mod Laws
pub mod Scalars
pub mod Trimmed
pub mod Unique
