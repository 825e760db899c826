pub mod Examples
pub mod MainExamples
pub mod Moves
pub mod Passes
pub mod Premises
