-- Turns of a check, and of who asks for the sequence number.
pub mod Keys
pub mod Numbered
pub mod CheckTurns
pub mod CheckReady
pub mod CheckJob
pub mod Faultless
pub mod AskedNumber
