pub mod Faults
pub mod Names
pub mod TableEvents
pub mod RowEvents
pub mod Describing
pub mod Expressions
pub mod StatementEvents
pub mod Judging
