pub mod Keywords
pub mod Reading
pub mod Spans
pub mod Words
