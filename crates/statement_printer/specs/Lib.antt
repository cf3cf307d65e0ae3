pub mod Bytes
pub mod Printing
