pub mod Image
mod Publish
mod ShortHistories
pub mod ReadFront
pub mod Runs
pub mod SameNames
pub mod Stop
