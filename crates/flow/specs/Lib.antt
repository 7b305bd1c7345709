pub mod Steps
pub mod Walks
pub mod Places
pub mod code
