pub mod Verdicts
pub mod Quantum
pub mod Walk
