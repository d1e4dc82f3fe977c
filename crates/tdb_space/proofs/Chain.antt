-- Laws of chains: walks along next words, look-ups, and records that are put in, taken out or changed.
pub mod Walks
pub mod Followed
pub mod Ahead
pub mod Ends
pub mod Members
pub mod Unlinks
pub mod Touches
pub mod Trades
pub mod Reached
