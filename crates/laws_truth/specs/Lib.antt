pub mod Mentioned
pub mod Scopes
pub mod ProgramTruth
