pub mod Ready
pub mod Words
