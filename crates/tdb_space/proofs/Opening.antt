-- Laws of what an undo gives.
pub mod Undone
