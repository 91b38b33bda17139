pub mod Labels
pub mod Indexes
pub mod Records
