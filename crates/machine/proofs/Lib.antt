pub mod Represents
pub mod Shows
pub mod Targets
pub mod Simulates
pub mod Runs
pub mod Lists
pub mod Views
pub mod Memory
