pub mod Contents
pub mod Items
pub mod Laws
pub mod Maps
pub mod Occur
pub mod Read
