pub mod Replays
mod WorkedRows
