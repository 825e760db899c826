pub mod Classes
pub mod Utf8
pub mod Spots
pub mod Tokens
pub mod Contents
pub mod Items
pub mod Answers
pub mod code
