pub mod SessionStops
pub mod Outside
pub mod AnsweredWords
pub mod Promise
