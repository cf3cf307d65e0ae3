pub mod Pieces
pub mod Ranges
pub mod Sents
pub mod Sets
pub mod Tables
