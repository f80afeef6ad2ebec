pub mod Refusals
pub mod Readings
pub mod Texts
pub mod Outcomes
pub mod Answers
pub mod Openings
pub mod Merges
pub mod Shown
