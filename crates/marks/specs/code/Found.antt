-- What the search finds: of every procedure of a table, the operands that marks come to under the table's smallest marks.
use Rattle.std.specs.Prelude.{ℕ, ◌+◌, ◌*◌, ◌<◌, ◌≡◌, Bool, false, List, get_or}
use Rattle.table.specs.Rows.{row_count}
use Rattle.table.specs.Index.{index_of}
use Rattle.declarations.specs.Program.{procedure_in, code_of}
use Rattle.flow.specs.Places.{operand_marked}
use Rattle.steps.specs.Steps.{marks_of}
use Rattle.helpers.specs.Tables.{marks_under, marks_in}
use Rattle.marks.specs.code.Search.{per_row}

pub record Found (t : List ℕ) (seen : List Bool) : Type 0 where
  pub operands : (q i j : ℕ) → q < (index_of t).procedures → i < row_count (code_of t (procedure_in (index_of t) q)) → j < 16
      → get_or seen (per_row * ((procedure_in (index_of t) q).code + i) + (16 + j)) false
      ≡ operand_marked (marks_of t (index_of t) (marks_under t (marks_in t)) q (procedure_in (index_of t) q)) i j
