-- A line is what the matches of `clap` show.
pub mod Rules
pub mod Words
pub mod Rows
pub mod Views
pub mod Runs
pub mod Lines
pub mod Refused
pub mod Matches
