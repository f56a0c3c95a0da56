pub mod Counting
pub mod KnownEdits
pub mod SoughtKeys
pub mod RefusedRenames
pub mod Statuses
pub mod Steps
