pub mod Numbers
pub mod Commands
pub mod Plays
pub mod Counts
pub mod Summary
pub mod Rounds
pub mod Taking
pub mod Generated
