pub mod Options
pub mod Settings
pub mod Commands
pub mod Plain
pub mod Line
pub mod Values
pub mod Job
pub mod Ranges
