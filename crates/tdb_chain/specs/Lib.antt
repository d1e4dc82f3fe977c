pub mod Place
pub mod Wanted
pub mod Reads
pub mod Changed
pub mod Raised
pub mod Stopped
