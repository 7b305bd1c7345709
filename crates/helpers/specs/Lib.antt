pub mod Marks
pub mod Rounds
pub mod Tables
pub mod code
