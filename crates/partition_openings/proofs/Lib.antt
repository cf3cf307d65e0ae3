pub mod LeftRows
pub mod OpenTables
