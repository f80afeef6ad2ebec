pub mod Marks
pub mod Objects
pub mod Texts
pub mod Given
pub mod Shown
pub mod Judged
pub mod Spans
