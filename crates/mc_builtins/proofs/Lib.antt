pub mod Division
pub mod Failing
pub mod Numbers
pub mod Telling
pub mod Readings
