pub mod Places
pub mod Faults
pub mod LeastPlan
pub mod ReadLines
pub mod Lines
pub mod OneLine
pub mod Stood
pub mod EveryText
