-- Laws of extents: how often they hold a byte, and in which order they lie.
pub mod Counts
pub mod Sorted
