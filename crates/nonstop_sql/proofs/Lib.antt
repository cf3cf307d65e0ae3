pub mod Known
pub mod Endings
pub mod Choices
pub mod Headlines
pub mod Seeable
