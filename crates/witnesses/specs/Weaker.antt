-- A judge without the leaks pass would break demand 3: a table that only that pass refuses, and a list over it with an event that is not safe. One that does not
-- ask the rule file would break the promise about forbidden pairs: a table that only the file refuses, and a list over it with an event that is not permitted.
use Rattle.std.specs.Prelude.{ℕ, ◌≡◌, List, [], ◌∷◌}
use Rattle.table.specs.Verdicts.{Accepted, Refused}
use Rattle.table.specs.Index.{index_of}
use Rattle.rows.specs.Rows.{length_of, rows_of}
use Rattle.names.specs.Names.{names_of}
use Rattle.operands.specs.Operands.{operands_of}
use Rattle.locals.specs.Locals.{locals_of}
use Rattle.judging.specs.Judging.{in_order, judge_of, judge_under}
use Rattle.semantics.specs.Calls.{list_of}
use Rattle.semantics.specs.Run.{history_of}
use Rattle.semantics.specs.Claim.{All, Safe}
use Rattle.semantics.specs.Permitted.{Permitted}

-- over the table t and the list l
pub record BreaksWithoutLeaks (t l : List ℕ) : Type 0 where
  pub row : ℕ
  pub refused : judge_of t ≡ Refused 14 row
  pub rows : ℕ
  pub otherwise : in_order (length_of ∷ rows_of ∷ names_of ∷ operands_of ∷ locals_of ∷ []) t ≡ Accepted rows
  pub calls : ℕ
  pub good : list_of t (index_of t) l ≡ Accepted calls
  pub unsafe : All (Safe t (index_of t)) (history_of t l) → ⊥

-- under the file r, over the table t and the list l
pub record BreaksWithoutRules (r t l : List ℕ) : Type 0 where
  pub row : ℕ
  pub refused : judge_under 1 r t ≡ Refused 22 row
  pub rows : ℕ
  pub otherwise : judge_of t ≡ Accepted rows
  pub calls : ℕ
  pub good : list_of t (index_of t) l ≡ Accepted calls
  pub crossed : All (Permitted r t) (history_of t l) → ⊥
