pub mod Refusing
pub mod Entries
pub mod Storing
