mod Done
mod Unique
mod NoGoal
mod OneGoal
pub mod Shapes
