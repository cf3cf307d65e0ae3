pub mod Plans
pub mod Rows
pub mod Follows
pub mod Sessions
pub mod UnderWay
