pub mod Histories
pub mod Buckets
pub mod Stores
pub mod Fronts
pub mod Traces
