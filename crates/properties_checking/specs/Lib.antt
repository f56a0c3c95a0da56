pub mod Check
pub mod JsonLines
pub mod Kinds
pub mod Misread
pub mod Private
