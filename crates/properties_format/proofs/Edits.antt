pub mod Results
pub mod Contents
pub mod InAscii
pub mod Kept
pub mod Lines
pub mod PairResults
pub mod Escapes
pub mod PairValues
