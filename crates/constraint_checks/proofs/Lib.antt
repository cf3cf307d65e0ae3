pub mod Compiled
pub mod Failing
