-- What proofs keep from step to step.
pub mod Machine
pub mod Leading
pub mod Left
