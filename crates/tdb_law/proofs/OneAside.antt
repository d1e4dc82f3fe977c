-- Lemmas on a world in which one opener has a transaction beside all others.
pub mod Idle
pub mod Leaving
pub mod Ungrouped
pub mod Wants
pub mod Choices
pub mod Alike
pub mod Beside
pub mod Happening
pub mod Committed
pub mod Shut
pub mod Parted
pub mod Starting
pub mod Passing
