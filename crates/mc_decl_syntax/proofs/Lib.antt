pub mod Bound
pub mod Distinct
pub mod Paths
pub mod Views
