pub mod ProcedureGoal
pub mod TypedGoals
pub mod code
pub mod HasLibrary
pub mod MadeTypes
