pub mod Standing
pub mod Truthful
