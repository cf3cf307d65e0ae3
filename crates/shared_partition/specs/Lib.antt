pub mod Sharing
pub mod Spelled
