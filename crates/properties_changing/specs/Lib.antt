pub mod Change
pub mod Commenting
pub mod Counts
pub mod InPlace
pub mod Keys
pub mod Private
pub mod Removing
pub mod Renaming
