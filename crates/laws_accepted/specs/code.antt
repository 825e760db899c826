pub mod AcceptanceExamples
pub mod Examples
pub mod ExamplesOfClauses
pub mod ExamplesOfDeterminisms
pub mod ExamplesOfFaults
pub mod ExamplesOfInference
pub mod ExamplesOfInsts
pub mod ExamplesOfSwitches
