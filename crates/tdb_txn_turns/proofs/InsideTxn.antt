-- Lemmas on the commands of an opener inside its own transaction.
pub mod Inside
pub mod Nested
pub mod ExplicitLocks
pub mod Keys
pub mod Progress
pub mod Fullness
pub mod Turned
pub mod Fronts
pub mod Cursors
pub mod Walked
pub mod Overlays
pub mod Lifted
pub mod Spared
pub mod WalkKept
pub mod PlainWalks
