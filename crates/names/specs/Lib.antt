pub mod Names
pub mod Exist
