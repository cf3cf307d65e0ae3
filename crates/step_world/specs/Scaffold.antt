-- What proofs keep from step to step.
pub mod Worlds
pub mod Seats
pub mod Mails
pub mod Openings
pub mod Measures
