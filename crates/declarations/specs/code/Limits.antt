-- What the code's buffers need, and no rule of document 01: given any bytes and any index, the code of the locals and leaks passes has room for procedures
-- within the limits and passes over the others. A table that the rows pass accepts has no others, so that judging reads none of this.
use Rattle.std.specs.Prelude.{ℕ, Bool, cond, ◌||◌, List, ltb}
use Rattle.table.specs.declared.index.ProcedureEntry.{ProcedureEntry}
use Rattle.table.specs.Format.{max_locals, max_instructions}
use Rattle.table.specs.Rows.{row_count}
use Rattle.declarations.specs.Program.{local_count, code_of}

-- a procedure over the limit on locals or on instructions: the rows pass refuses its table
unfoldable pub over_limits : List ℕ → ProcedureEntry → Bool
over_limits t p = ltb max_locals (local_count p) || ltb max_instructions (row_count (code_of t p))

-- the faults of a procedure that are looked for: none in one over a limit
unfoldable pub limited : List ℕ → ProcedureEntry → (ℕ → ℕ) → ℕ → ℕ
limited t p fault = cond (over_limits t p) (λ (i : ℕ). 0) fault
