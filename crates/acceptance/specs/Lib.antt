pub mod Checked
pub mod Refusals
pub mod RowRefusals
pub mod Judged
pub mod ProcedureRows
pub mod Helpers
