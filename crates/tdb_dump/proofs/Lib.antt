pub mod ExpectedLemmas
pub mod GrammarLemmas
pub mod KeySetLemmas
pub mod LetterLemmas
pub mod MoveLemmas
pub mod ReadingLemmas
pub mod TakenLemmas
pub mod Runs
