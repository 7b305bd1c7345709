pub mod Sets
pub mod Parts
pub mod Laws
