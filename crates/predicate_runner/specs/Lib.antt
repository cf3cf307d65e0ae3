pub mod Outlines
pub mod Stepping
pub mod Items
pub mod Scaffold
