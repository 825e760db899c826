pub mod Bodies
pub mod ConstraintLaws
pub mod Determinisms
pub mod Marked
pub mod MarkedProcedures
pub mod Pruned
pub mod PrunedProcedures
pub mod code
