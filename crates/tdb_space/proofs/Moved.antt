-- Laws of an image whose undo area or length becomes another.
pub mod SameLists
