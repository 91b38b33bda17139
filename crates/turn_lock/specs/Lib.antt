pub mod Pass
pub mod Interleaving
pub mod Views
pub mod Rule
pub mod Steps
pub mod Inside
