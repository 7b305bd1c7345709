pub mod Laws
pub mod Settle
pub mod Search
pub mod Same
