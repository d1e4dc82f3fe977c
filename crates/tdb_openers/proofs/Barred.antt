-- Turns of openers that are shut out.
pub mod Meeting
pub mod ShutOut
pub mod ShutTurns
pub mod ShutWorlds
pub mod Passing
