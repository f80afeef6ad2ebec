pub mod Ordered
pub mod Meaning
pub mod Numbers
pub mod Fronts
pub mod Steps
mod Alone
