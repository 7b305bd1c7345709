-- What the code's own values stand for: no one needs to believe it.
pub mod Turning
pub mod Operations
pub mod Stack
pub mod Control
