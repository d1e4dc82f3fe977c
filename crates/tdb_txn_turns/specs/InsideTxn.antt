-- The commands of an opener inside its own transaction.
pub mod Done
pub mod Spared
pub mod OwnTxns
pub mod Turns
pub mod Counted
pub mod Laws
pub mod Walks
