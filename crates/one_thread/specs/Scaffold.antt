-- What proofs keep from step to step.
pub mod Cells
pub mod Columns
pub mod Inserting
pub mod Loading
pub mod Runs
pub mod Scans
pub mod Sessions
pub mod Statements
pub mod Touched
pub mod Windows
pub mod Worlds
