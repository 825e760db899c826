pub mod Runs
pub mod Looking
pub mod Procs
pub mod Decisions
