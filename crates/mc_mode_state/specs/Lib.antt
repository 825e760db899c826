pub mod Tables
pub mod Nodes
pub mod States
pub mod Agreeing
pub mod Answers
pub mod Modes
pub mod Merged
pub mod code
