pub mod Format
pub mod Rows
pub mod Verdicts
pub mod Index
pub mod Procedures
pub mod Flags
pub mod Refusals
