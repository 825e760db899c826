pub mod GoalForms
pub mod StateVariables
pub mod Goals
pub mod States
pub mod Clauses
pub mod Limits
pub mod code
