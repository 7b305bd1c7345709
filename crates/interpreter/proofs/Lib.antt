pub mod Live
pub mod Frames
pub mod Facts
pub mod Untouched
pub mod Steps
pub mod Follows
pub mod Keeping
pub mod Loops
