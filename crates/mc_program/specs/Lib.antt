pub mod PlainPrograms
pub mod Printed
pub mod Programs
pub mod Values
