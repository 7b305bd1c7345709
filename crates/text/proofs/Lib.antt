pub mod Placing
pub mod Lines
mod Decimal
