pub mod Answers
pub mod code
pub mod Reading
