pub mod Private
pub mod LineSearch
pub mod Scanner
pub mod LineReader
pub mod LogicalLine
pub mod LineJoiner
