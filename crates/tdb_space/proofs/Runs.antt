-- Laws of the runs of bytes that change.
pub mod Stretches
