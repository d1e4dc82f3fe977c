-- Plays in a world, the report of them, and what stops leave.
pub mod Playable
pub mod Calls
pub mod Stopped
pub mod Led
pub mod Stops
pub mod Changes
pub mod Prepared
pub mod Turns
pub mod Told
pub mod Unfinished
pub mod Laws
pub mod Hearing
pub mod Unreported
pub mod Scene
