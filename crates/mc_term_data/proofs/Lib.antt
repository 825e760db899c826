mod Counts
pub mod Chains
pub mod Depths
pub mod Lasts
pub mod Shapes
