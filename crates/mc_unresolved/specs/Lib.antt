pub mod Unresolved
pub mod Steps
pub mod code
