pub mod TruthOfRules
pub mod FormsMerge
