-- What private contracts and proofs are stated by. No public contract needs it.
pub mod Walked
