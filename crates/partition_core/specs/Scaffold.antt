-- What proofs keep from step to step.
pub mod Contents
pub mod Changes
pub mod Firsts
