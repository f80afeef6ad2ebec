mod Order
mod Spans
mod Parted
mod Lasts
pub mod Fresh
pub mod Rooms
mod Nexts
mod Levels
mod Refusals
mod Later
pub mod Gives
mod EveryOutcome
mod Coming
mod Whole
mod Passed
mod Used
mod Passing
mod Pieces
mod Cases
mod Before
pub mod Histories
