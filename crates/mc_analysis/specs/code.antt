pub mod Asked
pub mod Committed
pub mod Judged
pub mod Fitting
pub mod Tests
