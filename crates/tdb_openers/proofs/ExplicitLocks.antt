-- The locks that openers ask for, and all records held by one of them.
pub mod Strengths
pub mod Owned
pub mod Asking
pub mod Keeping
pub mod Beside
pub mod Changed
pub mod Shifted
pub mod Effected
pub mod Lockings
pub mod Granted
pub mod LockEnds
pub mod Aside
pub mod Sharing
pub mod LockingJob
pub mod Wanting
pub mod OwnSide
