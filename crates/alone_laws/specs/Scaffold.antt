-- What proofs keep from step to step.
pub mod Failing
pub mod Served
pub mod States
