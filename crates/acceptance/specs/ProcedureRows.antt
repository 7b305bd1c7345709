-- A procedure's rows in a table that the rows pass accepts (document 01, "Table rows"): its own row, its locals, its results and its instructions, the
-- same rows that the passes judge; and each instruction of the table stands in one procedure.
use Rattle.std.specs.Prelude.{ℕ, ◌+◌, ◌-◌, ◌*◌, ◌<◌, ◌≤◌, ◌≡◌, List, ◌++◌}
use Rattle.table.specs.declared.index.ProcedureEntry.{ProcedureEntry}
use Rattle.table.specs.Format.{row_bytes, procedure_kind, local_kind, result_kind, instruction_kind}
use Rattle.table.specs.Rows.{row_count, row_at, kind_at}
use Rattle.table.specs.Index.{index_of}
use Rattle.table.specs.Procedures.{rows_between, part_start, procedure_row, procedure_end, procedure_rows, procedure_start}
use Rattle.declarations.specs.Program.{local_count, code_of, procedure_in}

-- procedure p, whose entry in the index is e
pub record Layout (t : List ℕ) (p : ℕ) (e : ProcedureEntry) : Type 0 where
  -- its own row is number p of the rows of kind 4
  pub own : procedure_row t p ≡ e.row
  pub own-kind : kind_at t e.row ≡ procedure_kind
  -- its locals, its results and its instructions follow, up to the end of its rows
  pub order : (e.row < e.results) × (e.results ≤ e.code) × (e.code ≤ e.end) × (e.end ≤ row_count t)
  pub local-kind : (r : ℕ) → e.row < r → r < e.results → kind_at t r ≡ local_kind
  pub result-kind : (r : ℕ) → e.results ≤ r → r < e.code → kind_at t r ≡ result_kind
  pub code-kind : (r : ℕ) → e.code ≤ r → r < e.end → kind_at t r ≡ instruction_kind
  pub ends : procedure_end t (e.row + 1) ≡ e.end
  -- so its rows are these four parts, byte for byte
  pub parts : procedure_rows t p ≡ rows_between t e.row (e.row + 1) ++ (rows_between t (e.row + 1) e.results ++ (rows_between t e.results e.code ++ code_of t e))
  -- the part that the passes receive lies within the part that is the procedure's rows, from its first instruction on
  pub code-place : part_start t e.code e.end ≡ procedure_start t p + row_bytes * (e.code - e.row)
  -- and row by row: a row of the table, a local, an instruction
  pub row-at : (i : ℕ) → i < e.end - e.row → row_at t (e.row + i) ≡ row_at (procedure_rows t p) i
  pub local_at : (l : ℕ) → l < local_count e → row_at t (e.row + 1 + l) ≡ row_at (procedure_rows t p) (1 + l)
  pub code_at : (i : ℕ) → i < row_count (code_of t e) → row_at (code_of t e) i ≡ row_at (procedure_rows t p) (e.code - e.row + i)

-- row r stands in the code of procedure p
abbrev pub InCode : List ℕ → ℕ → ℕ → Type 0
InCode t p r =
    let e = procedure_in (index_of t) p in
    (p < (index_of t).procedures) × (e.code ≤ r) × (r < e.code + row_count (code_of t e))

-- and in that of no other
pub record InOne (t : List ℕ) (r : ℕ) : Type 0 where
  pub procedure : ℕ
  pub inside : InCode t procedure r
  pub only : (p : ℕ) → InCode t p r → p ≡ procedure
