pub mod Tables
pub mod Formed
pub mod Segments
pub mod Rows
pub mod Assisted
