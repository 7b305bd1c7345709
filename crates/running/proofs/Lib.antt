pub mod Calls
pub mod Follows
pub mod Laws
pub mod Runs
pub mod Values
pub mod Safe
