pub mod InLine
mod Rules
mod WorkedRows
