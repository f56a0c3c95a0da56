pub mod Encoding
pub mod Private
pub mod Parsing
pub mod Escaping
pub mod MalformedEscapes
pub mod Printing
pub mod PrintedTexts
pub mod Converted
