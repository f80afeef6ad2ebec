pub mod Each
pub mod Guested
mod Looking
mod Only
mod Performed
