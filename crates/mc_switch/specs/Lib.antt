pub mod Openings
pub mod Types
pub mod Kept
pub mod SwitchedBodies
pub mod code
