pub mod InTurn
pub mod Lookups
