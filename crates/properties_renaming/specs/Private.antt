pub mod Copied
pub mod Renaming
pub mod Renames
pub mod Commented
pub mod CommentTexts
pub mod Commenting
pub mod KeyEdits
pub mod Keyed
