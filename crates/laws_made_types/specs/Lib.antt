pub mod Makes
pub mod Traced
pub mod Constructors
pub mod Known
pub mod MadeTypes
