pub mod Examples
pub mod Steps
pub mod Tables
pub mod Visibilities
pub mod Passes
