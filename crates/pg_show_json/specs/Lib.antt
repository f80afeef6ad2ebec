pub mod Tree
pub mod Events
pub mod Reports
pub mod Entries
pub mod Findings
pub mod Lasts
pub mod Causes
pub mod Tallies
