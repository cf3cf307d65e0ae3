pub mod Jobs
pub mod Tokens
pub mod Sessions
pub mod Doing
pub mod Dealing
pub mod Pooled
pub mod Returning
pub mod Closing
