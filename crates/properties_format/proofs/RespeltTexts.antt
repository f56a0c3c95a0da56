pub mod Parts
pub mod Joined
pub mod Divided
pub mod Meant
pub mod Entries
pub mod Lined
pub mod Items
