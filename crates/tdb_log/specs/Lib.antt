pub mod Texts
pub mod Logs
