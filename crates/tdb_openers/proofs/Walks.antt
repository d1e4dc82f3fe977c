-- Turns of the commands on a cursor.
pub mod Purgers
pub mod WalkReady
pub mod WalkHeld
pub mod WalkFiled
pub mod WalkLifted
pub mod WalkStepping
pub mod Rests
pub mod StillWalks
