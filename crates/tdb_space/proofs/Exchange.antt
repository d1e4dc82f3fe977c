-- Laws of images that are alike in some bytes.
pub mod Kept
pub mod Written
pub mod Overlaid
