pub mod Items
pub mod HexLemmas
pub mod ShortWords
pub mod WordReadings
pub mod Sizes
pub mod SameKey
pub mod BackupNames
pub mod Clap
