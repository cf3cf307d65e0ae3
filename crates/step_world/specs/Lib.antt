pub mod Tellings
pub mod Choosing
pub mod Runs
pub mod Scaffold
