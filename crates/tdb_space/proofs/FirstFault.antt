-- Laws of first faults: what each stage finds, and that an image is accepted exactly where none does.
pub mod Cleared
pub mod Passed
pub mod Faults
pub mod Agreed
pub mod Refused
