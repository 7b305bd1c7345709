pub mod Policy
pub mod Allowed
pub mod code
