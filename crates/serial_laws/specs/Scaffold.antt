-- What proofs keep from step to step.
pub mod Chains
pub mod Found
pub mod Sound
pub mod Stages
pub mod Exact
