-- What proofs keep from step to step.
pub mod Giving
pub mod Reading
