pub mod VerdictViews
pub mod Faults
