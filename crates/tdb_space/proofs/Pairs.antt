-- Laws of the pairs of an image, their order and its map.
pub mod Listed
pub mod Gathered
pub mod Maps
pub mod Orders
