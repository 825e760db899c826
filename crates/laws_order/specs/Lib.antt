pub mod NormalScopes
pub mod OrderLaws
pub mod SomeTest
pub mod Tidying
pub mod code
