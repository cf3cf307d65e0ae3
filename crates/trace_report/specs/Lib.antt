pub mod Rows
pub mod Lines
pub mod Counts
pub mod LockBook
pub mod QuantumTable
pub mod Reports
