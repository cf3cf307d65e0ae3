pub mod Checking
pub mod Verdicts
pub mod Walking
pub mod Changing
