pub mod Acting
pub mod Binding
pub mod FramesCalling
pub mod Giving
pub mod Growth
pub mod Making
pub mod SameValues
pub mod Unifying
pub mod ReadingLemmas
pub mod TickedLaws
pub mod Moves
pub mod Steps
pub mod Pushing
pub mod Starts
pub mod Growing
pub mod Going
pub mod Casing
pub mod Applying
mod Keeping
mod Looking
mod Strays
mod Calling
mod OnlyReading
mod Waiting
mod Working
mod Beginning
mod Opening
mod Mentioned
