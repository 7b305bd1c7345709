pub mod Operands
pub mod Flow
