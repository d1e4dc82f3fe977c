pub mod Blocks
pub mod Cached
pub mod Content
pub mod Kept
pub mod Laid
pub mod Piece
pub mod View
pub mod WriteBehind
