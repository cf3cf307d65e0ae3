pub mod Narrowing
pub mod Bests
pub mod Columns
