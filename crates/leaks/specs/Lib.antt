pub mod Leaks
pub mod code
