pub mod Differing
pub mod Hinting
pub mod Json
pub mod Lacking
pub mod Merging
