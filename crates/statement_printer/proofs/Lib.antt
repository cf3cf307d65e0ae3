pub mod Joining
mod PrintedRows
