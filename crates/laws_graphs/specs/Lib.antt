pub mod Related
pub mod Nodes
pub mod Follows
pub mod DeterminismLaws
pub mod SwitchLaws
pub mod MarkedLaws
pub mod FaultLaws
pub mod RunLaws
