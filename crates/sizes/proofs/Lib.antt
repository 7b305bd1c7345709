pub mod Sizes
pub mod Rows
pub mod Counts
pub mod Places
pub mod Inside
