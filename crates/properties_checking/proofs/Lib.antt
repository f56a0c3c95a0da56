pub mod CheckFindings
pub mod Json
pub mod KeyPlaces
pub mod LeftOut
pub mod LineFindings
pub mod OpenLines
