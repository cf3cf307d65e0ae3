pub mod Blocks
pub mod Cells
pub mod Changes
pub mod Files
