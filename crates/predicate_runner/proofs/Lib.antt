pub mod Writing
pub mod Stacks
pub mod Walks
pub mod Judged
