pub mod Asking
pub mod Beginnings
pub mod Lasting
pub mod Scaffold
