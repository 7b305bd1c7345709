pub mod Judging
pub mod Before
pub mod Files
