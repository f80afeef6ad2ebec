pub mod Caches
pub mod Find
pub mod Slots
pub mod Left
pub mod Pages
pub mod Spaces
pub mod Held
pub mod Laws
