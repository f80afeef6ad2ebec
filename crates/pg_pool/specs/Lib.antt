pub mod Errors
pub mod Rounds
pub mod Seats
pub mod DequeRule
pub mod Verdicts
pub mod Ways
pub mod Windows
pub mod Work
