pub mod One
pub mod Text
pub mod Answer
pub mod Scaffold
