pub mod NameLemmas
pub mod Counts
