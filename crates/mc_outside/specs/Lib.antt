pub mod Counts
pub mod InMemory
pub mod Meaning
pub mod Named
