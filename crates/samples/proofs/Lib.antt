pub mod Rules
pub mod Samples
pub mod Bytes
