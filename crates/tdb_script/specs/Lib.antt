pub mod Limits
pub mod Lines
pub mod Number
pub mod Rows
pub mod Script
pub mod Text
pub mod Laws
