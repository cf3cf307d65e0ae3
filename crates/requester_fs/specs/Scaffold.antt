-- What proofs keep from step to step.
pub mod Stages
pub mod Working
