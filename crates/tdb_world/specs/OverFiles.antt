-- What the calls of a world that has its disk come to.
pub mod Opening
pub mod Openers
pub mod Turns
pub mod Plays
