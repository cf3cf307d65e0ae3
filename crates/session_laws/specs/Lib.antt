pub mod Scaffold
