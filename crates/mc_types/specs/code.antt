pub mod Joins
pub mod Marks
pub mod Passed
pub mod Standing
pub mod Found
pub mod RootTable
pub mod Systems
