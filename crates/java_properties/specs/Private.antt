pub mod Engine
pub mod GivenItems
pub mod LineByLine
pub mod PassedGroups
