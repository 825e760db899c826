pub mod Meanings
pub mod Walking
pub mod Examples
pub mod Views
pub mod GoalWalks
pub mod Clauses
