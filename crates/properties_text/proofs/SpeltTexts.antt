pub mod First
pub mod Escapes
pub mod Searches
pub mod FirstMalformed
