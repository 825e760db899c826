pub mod Arguments
pub mod CellLaws
pub mod Grown
pub mod WalkLaws
