pub mod Better
pub mod Knowledge
pub mod Offered
pub mod Peak
pub mod Rule
pub mod Share
pub mod Steps
