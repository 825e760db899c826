pub mod Determinism
pub mod Rules
