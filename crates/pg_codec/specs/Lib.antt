pub mod Streams
pub mod Errors
pub mod Writing
pub mod Reads
pub mod Parts
pub mod Readers
pub mod Intakes
pub mod Bare
