pub mod Failures
pub mod FirstFailures
pub mod Outcomes
pub mod Closings
pub mod PartsRead
pub mod Attempts
pub mod Sessions
pub mod Loops
