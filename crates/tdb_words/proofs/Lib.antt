pub mod Words
pub mod OldSums
pub mod Twelves
pub mod JenkinsPieces
pub mod NewHeader
pub mod SameHeader
pub mod Hashes
