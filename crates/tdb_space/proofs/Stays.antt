-- Laws of what a change leaves to others.
pub mod Changes
