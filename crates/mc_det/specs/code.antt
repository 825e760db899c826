pub mod Symbols
pub mod Points
pub mod Testing
pub mod Facts
pub mod Walks
pub mod Marks
pub mod Prunes
pub mod Places
