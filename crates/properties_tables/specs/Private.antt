pub mod Flawed
pub mod Fold
pub mod Sought
pub mod Table
