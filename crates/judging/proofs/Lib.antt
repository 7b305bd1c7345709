pub mod Sizes
pub mod Laws
pub mod Values
pub mod Accepts
pub mod Numbers
pub mod Before
pub mod Under
