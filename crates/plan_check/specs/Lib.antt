pub mod Fault
pub mod Least
pub mod PlanText
pub mod Refusal
pub mod Reading
pub mod Publication
