pub mod Plain
pub mod Definitions
pub mod Characters
pub mod Linked
pub mod Numbers
pub mod Parameters
pub mod Candidates
pub mod code
