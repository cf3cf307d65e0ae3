pub mod Messages
pub mod Hands
pub mod Rule
pub mod Tokens
pub mod Gathering
pub mod Insides
