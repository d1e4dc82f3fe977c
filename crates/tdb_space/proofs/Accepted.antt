-- Laws of accepted images: how they are laid out, and which changes keep them accepted.
pub mod Laid
pub mod Areas
pub mod Hands
pub mod Remains
pub mod Swaps
pub mod FreeSwaps
pub mod Writes
pub mod Links
pub mod Grown
pub mod Fresh
pub mod Removes
pub mod Updates
pub mod Frees
