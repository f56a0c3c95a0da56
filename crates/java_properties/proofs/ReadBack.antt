pub mod Scalars
pub mod Written
