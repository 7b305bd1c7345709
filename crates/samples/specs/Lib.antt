pub mod Tables
pub mod Samples
pub mod Bytes
