pub mod Accepting
pub mod Ends
pub mod EvenGroups
pub mod FormEnds
pub mod FormVariables
pub mod FormedAppend
pub mod FormedFacts
pub mod FormedGoals
pub mod Groups
pub mod KeptArms
pub mod KeptGathered
pub mod KeptTold
pub mod Moving
pub mod NoSwitches
pub mod Outside
pub mod Retelling
pub mod Staying
pub mod Switching
pub mod Telling
mod Enough
pub mod Faultless
pub mod Forms
pub mod Grouping
mod Inferring
pub mod Labels
pub mod NoFaults
pub mod Opened
mod Places
mod Placing
mod Quiet
mod Tables
mod WholeGoals
