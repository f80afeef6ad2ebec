pub mod Lines
pub mod Loops
pub mod Firsts
pub mod Writers
pub mod Reasons
pub mod Filters
pub mod Judged
pub mod Counts
mod Denials
mod Noted
