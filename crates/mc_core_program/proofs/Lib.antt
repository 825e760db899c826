pub mod Pushing
pub mod NumberLemmas
pub mod GoalLemmas
pub mod Queries
pub mod Wholes
