pub mod Antichains
pub mod Judging
