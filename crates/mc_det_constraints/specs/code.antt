pub mod Callers
pub mod Raising
pub mod Pending
