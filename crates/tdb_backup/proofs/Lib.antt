mod Walk
mod Costs
mod Bytes
pub mod Dumped
pub mod Inserting
pub mod Rooms
mod Prepending
mod Growths
mod Building
pub mod Restored
