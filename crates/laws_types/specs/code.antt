pub mod Examples
pub mod ExamplesOfTypes
pub mod ExamplesOfWalks
pub mod ExamplesOfFlags
