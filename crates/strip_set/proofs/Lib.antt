mod Directions
pub mod Members
mod Words
