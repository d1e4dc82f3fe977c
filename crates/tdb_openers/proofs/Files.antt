-- What turns leave of the bytes of the file.
pub mod Filing
pub mod Images
