pub mod Law
pub mod Converse
pub mod Plan
pub mod Places
pub mod Build
