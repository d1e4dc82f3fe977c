pub mod Opening
pub mod Notices
pub mod Loading
pub mod Creating
