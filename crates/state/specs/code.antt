-- What the code's own values stand for: no one needs to believe it.
pub mod Coding
pub mod Cells
pub mod Layout
pub mod Stops
pub mod Frames
pub mod Rooms
pub mod Entries
