pub mod Window
pub mod Rescued
pub mod Text
pub mod Laws
