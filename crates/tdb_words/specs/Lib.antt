pub mod Word
pub mod Record
pub mod Header
pub mod Hash
pub mod HashRun
pub mod Running
pub mod What
pub mod Magics
