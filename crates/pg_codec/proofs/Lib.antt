mod Intakes
pub mod Pushed
pub mod Written
pub mod Many
pub mod Local
pub mod Widths
pub mod Pulled
pub mod Next
pub mod Named
pub mod Adding
pub mod Going
pub mod Steps
pub mod Pushing
pub mod Segments
