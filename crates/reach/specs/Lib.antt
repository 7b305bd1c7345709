pub mod Reach
pub mod code
