pub mod Grown
pub mod Hidden
pub mod Kept
