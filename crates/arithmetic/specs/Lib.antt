pub mod Arithmetic
pub mod code
