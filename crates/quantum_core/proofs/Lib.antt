pub mod Greatest
pub mod Walking
pub mod Windows
mod WorkedRows
