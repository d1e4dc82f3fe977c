-- Laws of the writes of a commit.
pub mod WritesUndone
