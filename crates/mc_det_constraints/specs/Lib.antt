pub mod Skeletons
pub mod Least
pub mod code
