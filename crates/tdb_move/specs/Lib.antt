pub mod Faults
pub mod Keeping
pub mod Moved
pub mod Parts
