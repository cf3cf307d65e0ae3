pub mod Laws
pub mod Scaffold
