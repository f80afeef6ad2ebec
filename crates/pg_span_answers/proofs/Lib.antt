pub mod Spelled
pub mod Taking
pub mod Telling
pub mod Found
mod Placed
