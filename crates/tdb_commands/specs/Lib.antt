pub mod Report
pub mod InLaw
pub mod Named
pub mod Short
pub mod Counts
