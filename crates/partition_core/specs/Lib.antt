pub mod Kept
pub mod Settling
pub mod Rooms
pub mod Scaffold
