pub mod Goals
pub mod Whole
pub mod WholeProgramGoals
pub mod Wholes
pub mod code
