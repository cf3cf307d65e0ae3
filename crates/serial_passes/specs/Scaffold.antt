-- What proofs keep from step to step.
pub mod Did
pub mod Inserts
pub mod Passes
pub mod Pieces
pub mod Walks
pub mod Worlds
