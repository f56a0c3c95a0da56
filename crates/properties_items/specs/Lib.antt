pub mod Errors
pub mod Line
pub mod DisplayTexts
pub mod BorrowedItems
pub mod Texts
