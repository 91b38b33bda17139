pub mod Members
pub mod Rest
pub mod Stored
pub mod Laws
