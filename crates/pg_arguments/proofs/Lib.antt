pub mod Parses
pub mod Rows
pub mod Told
