pub mod Copies
pub mod Formats
pub mod Meanings
pub mod RowsLoop
pub mod Spelled
pub mod WorkedRows
