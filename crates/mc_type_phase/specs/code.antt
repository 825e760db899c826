pub mod Adding
pub mod ItemKinds
pub mod Subjects
