mod ByForm
mod ByParts
mod Clauses
mod Closing
mod Disjunctions
mod Forms
pub mod Lists
mod Orders
pub mod Sets
mod ShortParts
pub mod Stateless
mod Written
