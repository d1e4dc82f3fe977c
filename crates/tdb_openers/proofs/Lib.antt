pub mod Joining
pub mod ExplicitLocks
pub mod PlainTurns
pub mod Checks
pub mod Walks
pub mod Barred
pub mod Files
