pub mod Procedures
pub mod Named
pub mod Fitting
pub mod VariableTypes
