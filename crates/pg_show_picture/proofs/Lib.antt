pub mod Lanes
pub mod Kept
pub mod Written
