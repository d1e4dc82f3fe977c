pub mod Answers
pub mod TerminalSource
