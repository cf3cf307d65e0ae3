pub mod OpeningLengths
pub mod Closings
pub mod DrawnLogs
pub mod TwoSessions
pub mod CrossedSessions
pub mod CrossedReplays
mod WorkedRows
mod TwoReadings
mod TwoLegal
mod TwoText
mod WrongRuns
