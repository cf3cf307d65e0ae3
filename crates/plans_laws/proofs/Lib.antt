pub mod Opened
pub mod Plans
pub mod Suiting
pub mod Quanta
pub mod Replying
pub mod SpelledSteps
pub mod SpelledHistories
pub mod SpelledPlans
