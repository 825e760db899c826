pub mod Chains
mod Once
mod OnePhase
mod Lists
mod ReadFiles
mod SomeFiles
mod Links
mod Types
mod Clauses
mod WithoutClauses
mod Insts
pub mod Asked
mod Modes
mod Queries
mod Mains
