pub mod Memory
pub mod Recording
pub mod Kept
pub mod Walks
pub mod Laws
