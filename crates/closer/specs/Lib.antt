pub mod Waiting
pub mod Searching
pub mod Looking
pub mod Finishing
pub mod Joining
pub mod Sweeping
pub mod NewWaits
pub mod MoreWaits
