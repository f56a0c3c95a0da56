pub mod Failures
pub mod Lines
pub mod Messages
pub mod Private
pub mod SoundKeys
pub mod Sources
pub mod Table
pub mod Values
