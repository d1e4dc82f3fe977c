pub mod Edited
pub mod Stored
