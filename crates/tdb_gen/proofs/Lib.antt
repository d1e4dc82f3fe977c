pub mod Takings
mod Waiting
mod Turns
mod GoingOn
mod Keeping
mod Parting
mod Plain
mod Numbering
mod Grouping
mod Counting
mod Resting
mod Gifting
mod Endings
mod Turning
mod Generating
