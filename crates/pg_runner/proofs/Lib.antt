pub mod Lines
pub mod Started
pub mod Fullness
pub mod Orders
pub mod ByTurns
pub mod AtLines
pub mod Whole
pub mod Steps
mod AfterTurns
mod Batches
mod Beginnings
mod GivenOut
mod GoesOn
mod OfScripts
mod Untaken
mod WholeRuns
mod WholeSegments
