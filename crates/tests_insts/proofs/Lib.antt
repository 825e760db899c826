pub mod Programs
pub mod ComputedDefinitions
