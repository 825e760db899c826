pub mod Lines
pub mod Lexemes
pub mod Answers
pub mod code
