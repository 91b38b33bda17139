pub mod Refusal
pub mod Twins
