pub mod PartsOfTables
mod WorkedRows
