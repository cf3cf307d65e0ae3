pub mod Bounds
pub mod Intervals
pub mod Texts
pub mod Spans
