pub mod Reading
pub mod Differing
pub mod Refused
pub mod Written
pub mod Applied
mod WorkedRows
