pub mod Laws
pub mod Scan
pub mod Reasons
