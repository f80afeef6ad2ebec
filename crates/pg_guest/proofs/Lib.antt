mod SameInstructions
mod Pieces
mod Fronts
mod Lists
mod Deals
mod Loops
mod Pushing
pub mod Wells
mod Sums
pub mod Shapes
mod Refusals
mod Wants
mod Digits
mod Spaced
mod Sayings
mod Said
mod RowsOfReading
pub mod Longer
pub mod Pushed
pub mod Entries
pub mod Witnesses
pub mod Stays
pub mod Keys
pub mod Sound
pub mod AssistFlags
pub mod Positions
pub mod Hits
pub mod Turns
pub mod CoreRuns
pub mod Leaves
pub mod Cases
pub mod Transcripts
pub mod Rows
pub mod Further
pub mod Counts
pub mod Numbers
pub mod Assists
pub mod Few
pub mod Kept
pub mod Refused
pub mod Read
pub mod Reach
pub mod Instructions
pub mod Runs
pub mod Placed
pub mod Stopped
