pub mod LibraryNames
pub mod Walking
pub mod With
