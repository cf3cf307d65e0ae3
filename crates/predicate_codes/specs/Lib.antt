pub mod Decoding
pub mod SetLists
pub mod Laws
