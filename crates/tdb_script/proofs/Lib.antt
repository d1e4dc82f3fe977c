pub mod CutLemmas
pub mod NumberLemmas
pub mod PartLemmas
pub mod LawLemmas
pub mod LoopLemmas
pub mod ReadLemmas
pub mod RowLemmas
pub mod EachRow
