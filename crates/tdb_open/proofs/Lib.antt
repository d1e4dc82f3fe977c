pub mod Errors
pub mod Openings
pub mod Notices
pub mod ToTurn
pub mod MakesFile
pub mod NewFile
