pub mod Freshness
pub mod Survival
pub mod Stepping
mod Runs
pub mod Carries
pub mod Changes
mod Briefs
pub mod Writers
mod Listed
