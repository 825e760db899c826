pub mod Reached
pub mod Components
pub mod code
