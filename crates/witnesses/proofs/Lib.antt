pub mod Rules
pub mod Speaks
pub mod Weaker
