pub mod Merged
pub mod Faults
pub mod Endings
pub mod Parts
