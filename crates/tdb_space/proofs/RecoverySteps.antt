-- Laws of the steps of a recovery.
pub mod Steps
pub mod Emptying
