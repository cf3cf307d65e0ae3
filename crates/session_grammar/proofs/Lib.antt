pub mod LogLists
pub mod Readings
pub mod ScanReadings
mod WorkedRows
