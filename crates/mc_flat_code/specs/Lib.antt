pub mod code
pub mod Ticked
pub mod Running
pub mod Standing
pub mod SourceRuns
pub mod Mentions
