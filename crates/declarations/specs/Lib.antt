pub mod Program
pub mod code
