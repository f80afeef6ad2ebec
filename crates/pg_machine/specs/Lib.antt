pub mod Listed
pub mod Machine
pub mod NoRun
pub mod Refused
pub mod Stepping
pub mod FewerRules
