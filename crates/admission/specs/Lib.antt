pub mod CarefulRuns
pub mod Antichains
pub mod Contests
pub mod Clearing
pub mod Gathering
