pub mod ReadAhead
pub mod DecodeIter
pub mod Joining
pub mod JoinedRuns
