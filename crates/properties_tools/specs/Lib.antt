pub mod Arguments
pub mod Filter
pub mod Propfilter
pub mod Propedit
pub mod Private
