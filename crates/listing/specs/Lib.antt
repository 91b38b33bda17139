pub mod Listing
pub mod Best
