pub mod Variables
pub mod Unresolved
pub mod code
