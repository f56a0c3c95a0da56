pub mod Scalars
pub mod RawTexts
pub mod Comparisons
pub mod FoundItems
pub mod BorrowedItems
pub mod TextMaps
