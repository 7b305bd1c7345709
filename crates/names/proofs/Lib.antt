pub mod Laws
pub mod Exist
