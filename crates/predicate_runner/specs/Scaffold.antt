-- What proofs keep from step to step.
pub mod Texts
