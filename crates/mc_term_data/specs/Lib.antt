pub mod Plain
pub mod Names
pub mod Shapes
pub mod code
