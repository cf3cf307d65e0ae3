pub mod Openings
pub mod Legal
pub mod Tiles
pub mod Base
pub mod Serial
pub mod Seen
pub mod Text
pub mod Headline
