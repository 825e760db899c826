pub mod Resolved
pub mod code
