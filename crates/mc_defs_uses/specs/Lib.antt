pub mod Occurrences
pub mod Twice
pub mod Clauses
pub mod Sets
pub mod code
