pub mod Pass
pub mod Held
pub mod View
pub mod Rule
pub mod Gather
