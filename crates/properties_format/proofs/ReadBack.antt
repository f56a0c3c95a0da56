-- What is written is read back.
pub mod Spellings
pub mod Texts
pub mod Values
pub mod Pairs
pub mod Comments
pub mod Lines
pub mod Bytes
pub mod Unmarked
pub mod Law
pub mod Lists
