pub mod Onward
pub mod Rereading
pub mod Respelling
pub mod WholeScripts
