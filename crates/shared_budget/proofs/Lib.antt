pub mod Counting
pub mod Views
pub mod Drawing
pub mod Sharing
pub mod Ends
