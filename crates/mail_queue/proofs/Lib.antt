pub mod Sums
pub mod Times
pub mod Keeps
pub mod Whole
pub mod Deals
pub mod Gathers
