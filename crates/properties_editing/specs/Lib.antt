pub mod Comments
pub mod Editing
pub mod Views
pub mod Documents
pub mod Plans
pub mod Private
