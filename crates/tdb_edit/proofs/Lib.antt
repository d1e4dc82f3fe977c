pub mod Freeing
pub mod Fits
pub mod Putting
pub mod Setting
