pub mod Layers
pub mod Reading
pub mod Complete
pub mod Sound
pub mod Exact
pub mod ExactSets
pub mod Typed
pub mod KeepsRows
mod WorkedRows
