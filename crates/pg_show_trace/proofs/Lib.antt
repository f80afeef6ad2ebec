mod Parts
mod Items
pub mod Reading
pub mod Given
