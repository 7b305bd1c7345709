pub mod Tests
pub mod Coding
pub mod Cells
pub mod Searches
