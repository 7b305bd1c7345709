pub mod Laws
pub mod Flow
