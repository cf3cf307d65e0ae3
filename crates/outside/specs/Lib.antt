pub mod Calls
pub mod Collecting
pub mod Counter
pub mod Store
pub mod Supply
pub mod Wire
