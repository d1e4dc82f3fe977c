-- A world in which one opener has a transaction beside all others.
pub mod Sides
pub mod Turns
pub mod Events
pub mod Shutting
pub mod Passing
pub mod Laws
pub mod Own
pub mod Starts
