pub mod Parts
pub mod Judgements
pub mod Rising
pub mod Sifts
pub mod Searches
pub mod Least
pub mod Changes
