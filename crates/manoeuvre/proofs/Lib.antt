pub mod Entries
pub mod TurnedTables
