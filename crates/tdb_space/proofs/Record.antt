-- Laws of records.
pub mod Pieces
