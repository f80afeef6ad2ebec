pub mod Orders
pub mod Memory
pub mod Caches
pub mod Words
pub mod Witness
pub mod Supposed
pub mod Impossible
