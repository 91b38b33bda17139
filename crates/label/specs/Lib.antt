pub mod Labels
pub mod Tables
pub mod Gaining
pub mod Briefs
pub mod Outlines
pub mod Restoring
pub mod Sides
