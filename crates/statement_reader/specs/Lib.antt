pub mod Positions
pub mod Spells
