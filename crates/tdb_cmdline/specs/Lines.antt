-- The words of each command, as they stand behind its name.
pub mod Backup
pub mod Convert
pub mod Create
pub mod Dump
pub mod Generate
pub mod Mend
pub mod Moving
pub mod Turns
