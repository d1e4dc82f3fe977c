-- Laws of planned commits.
pub mod Content
pub mod Ready
pub mod Settled
