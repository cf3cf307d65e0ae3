-- What proofs keep from step to step.
pub mod Works
pub mod Plans
