-- What proofs keep from step to step.
pub mod Lanes
pub mod Standing
pub mod Serving
