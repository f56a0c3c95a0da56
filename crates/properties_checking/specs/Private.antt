pub mod Checking
pub mod LineFindings
pub mod Objects
pub mod OpenLines
