pub mod Keeps
pub mod Views
