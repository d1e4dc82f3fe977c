-- Laws of images that are undone alike.
pub mod Alike
pub mod Tails
