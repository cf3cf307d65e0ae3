pub mod Lasts
pub mod Turns
pub mod Crossing
