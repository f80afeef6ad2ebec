pub mod Controls
pub mod Shown
mod Dropping
