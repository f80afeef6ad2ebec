mod Same
mod History
mod Holding
mod Prefixes
mod Covering
mod Entering
mod Refuting
mod Taken
mod Listing
mod Passing
mod Handing
mod Witness
pub mod Deducing
mod NotGiven
