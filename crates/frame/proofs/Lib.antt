pub mod Meaning
pub mod Settles
pub mod StackArms
pub mod OperationsArms
pub mod ControlArms
