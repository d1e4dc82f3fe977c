pub mod LogLists
pub mod Telling
