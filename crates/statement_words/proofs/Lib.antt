pub mod Decimal
pub mod Formed
pub mod Pieces
pub mod Spelled
pub mod Standing
pub mod WordsLoop
mod Rows
