pub mod Infixes
pub mod Tree
pub mod Part
pub mod Reads
pub mod Answers
pub mod Laws
pub mod code
