pub mod Fronts
pub mod Made
pub mod Results
pub mod ByteOrderMarks
pub mod Pair
pub mod LogicalLines
pub mod Steps
pub mod Parts
