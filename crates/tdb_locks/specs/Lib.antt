pub mod Conflict
pub mod Cut
pub mod HeldLocks
pub mod LockTable
pub mod Refusal
pub mod Search
pub mod Spots
