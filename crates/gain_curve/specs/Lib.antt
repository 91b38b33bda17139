pub mod Curve
pub mod Difference
