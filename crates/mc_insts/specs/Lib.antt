pub mod Programs
pub mod Graphs
pub mod Narrowed
pub mod Merging
pub mod Growing
pub mod Defining
pub mod Kept
pub mod code
