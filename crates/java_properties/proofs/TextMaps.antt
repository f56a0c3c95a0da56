-- Maps that are read, and maps that are written.
use Rattle.properties_items.proofs.TextMaps.Values.{value-inserted, value-inserted-sorted}
pub use Rattle.properties_items.proofs.TextMaps.Values
pub mod Reading
pub mod Lines
pub mod Writing
pub mod ReadBack

pub ruleset puts = (value-inserted, value-inserted-sorted)
