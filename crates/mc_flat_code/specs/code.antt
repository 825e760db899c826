pub mod Building
pub mod Bodies
pub mod Mentioning
pub mod Answering
