mod Walking
mod Writing
mod Views
mod With
mod Whole
mod Libraries
mod Typed
pub mod Replaced
mod Meaning
pub mod Fitting
