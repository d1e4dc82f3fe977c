pub mod DirFiles
pub mod Faults
pub mod FileDisk
pub mod FileSink
pub mod Guard
pub mod InSource
pub mod OutSink
