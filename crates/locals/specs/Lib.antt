pub mod code
pub mod Locals
