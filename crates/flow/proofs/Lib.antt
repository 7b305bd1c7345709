pub mod Paths
pub mod Locals
pub mod Marks
pub mod Same
pub mod Laws
