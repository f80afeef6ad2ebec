pub mod Named
pub mod Layout
pub mod Svg
