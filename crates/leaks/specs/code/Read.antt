-- The leaks pass as the code makes it: it reads marks off the nodes that the search has found.
use Rattle.std.specs.Prelude.{ℕ, ◌+◌, ◌*◌, Bool, false, cond, List, get_or}
use Rattle.table.specs.Verdicts.{Verdict}
use Rattle.table.specs.declared.index.Index.{Index}
use Rattle.table.specs.declared.index.ProcedureEntry.{ProcedureEntry}
use Rattle.declarations.specs.Program.{code_pass}
use Rattle.marks.specs.code.Search.{per_row}
use Rattle.leaks.specs.Leaks.{in_trusted, leak_from}

-- whether operand j from the top is marked at a row
unfoldable pub marked_at : List Bool → ℕ → ℕ → Bool
marked_at seen row j = get_or seen (per_row * row + (16 + j)) false

-- on arriving at instruction i of procedure p
abbrev pub marked_in : List Bool → ProcedureEntry → ℕ → ℕ → Bool
marked_in seen p i = marked_at seen (p.code + i)

module _ (t : List ℕ) (ix : Index) (seen : List Bool) where
  unfoldable pub read_fault : ℕ → ProcedureEntry → ℕ → ℕ
  read_fault q p i = cond (in_trusted t ix p) (leak_from t ix p (marked_in seen p) i) 0

  unfoldable pub read_pass : Verdict
  read_pass = code_pass read_fault ix t
