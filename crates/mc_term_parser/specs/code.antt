-- The machine that reads, which private contracts and proofs are stated by. No public contract
-- needs it.
pub mod Machine
pub mod Leads
pub mod Seen
pub mod Views
pub mod Arguments
