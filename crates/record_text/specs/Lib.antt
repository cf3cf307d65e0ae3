pub mod Summary
pub mod Scaffold
