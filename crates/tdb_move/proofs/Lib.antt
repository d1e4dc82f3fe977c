pub mod Keeping
pub mod Replies
pub mod Parts
pub mod Steps
pub mod Whole
