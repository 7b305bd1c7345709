pub mod TargetsArms
