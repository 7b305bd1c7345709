pub mod Tables
pub mod Speaks
pub mod Weaker
