mod Paths
pub mod Walks
mod Fills
mod Built
mod Hops
mod Places
pub mod Accesses
pub mod Standing
mod Ends
pub mod Whole
pub mod Moments
mod Prefixes
pub mod Chains
pub mod Kept
pub mod Certified
pub mod Converse
