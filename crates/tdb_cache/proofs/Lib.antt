pub mod Bytes
pub mod Contents
pub mod Kepts
pub mod Laids
pub mod Looks
pub mod Tables
