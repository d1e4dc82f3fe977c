-- Turns of plain commands, and of any command on the map.
pub mod Standing
pub mod Busy
pub mod Calm
pub mod Lifting
pub mod Stepping
pub mod PlainRows
pub mod PlainTurned
pub mod PlainJob
pub mod PlainReady
pub mod TaskReady
pub mod JobFiles
pub mod PlainCursors
pub mod Fullness
