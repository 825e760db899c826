pub mod Plain
pub mod Entries
pub mod Terms
pub mod Types
pub mod Insts
pub mod Declarations
pub mod code
