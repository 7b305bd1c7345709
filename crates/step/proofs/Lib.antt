pub mod Shapes
pub mod Paths
