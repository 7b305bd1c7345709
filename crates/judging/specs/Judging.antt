-- Judging a table: the passes in order (document 01, "Judging").
use Rattle.std.specs.Prelude.{ℕ, ◌+◌, ◌*◌, ◌≡◌, List, [], ◌∷◌}
use Rattle.table.specs.Verdicts.{Verdict, Accepted, and_then, number_of, value_of}
use Rattle.table.specs.Rows.{row_count}
use Rattle.rows.specs.Rows.{length_of, rows_of}
use Rattle.names.specs.Names.{names_of}
use Rattle.operands.specs.Operands.{operands_of}
use Rattle.locals.specs.Locals.{locals_of}
use Rattle.leaks.specs.Leaks.{leaks_of}
use Rattle.policy.specs.Policy.{rules_of}

-- each pass over the whole table, each only if the earlier ones accept
unfoldable pub passes : List (List ℕ → Verdict)
passes = length_of ∷ rows_of ∷ names_of ∷ operands_of ∷ locals_of ∷ leaks_of ∷ []

unfoldable pub in_order : List (List ℕ → Verdict) → List ℕ → Verdict
in_order [] t = Accepted (row_count t)
in_order (pass ∷ later) t = let rest = in_order later t in and_then (pass t) rest

-- the verdict on a table, without a rule file: the first refusal, or the number of rows
unfoldable pub judge_of : List ℕ → Verdict
judge_of t = in_order passes t

-- under the rule file r, where there is one, which `has` tells: it is asked of a table that is accepted without it
unfoldable pub judge_under : ℕ → List ℕ → List ℕ → Verdict
judge_under has r t = and_then (judge_of t) (rules_of has r t)

-- the answer in one number: 2^32 times the refusal's number, or 0, plus its row, or the number of rows
unfoldable pub answer_of : Verdict → ℕ
answer_of v = 4294967296 * number_of v + value_of v

-- a table that every pass accepts
pub record AcceptedTable (t : List ℕ) : Type 0 where
  pub by_length : length_of t ≡ Accepted (row_count t)
  pub by_rows : rows_of t ≡ Accepted (row_count t)
  pub by_names : names_of t ≡ Accepted (row_count t)
  pub by_operands : operands_of t ≡ Accepted (row_count t)
  pub by_locals : locals_of t ≡ Accepted (row_count t)
  pub by_leaks : leaks_of t ≡ Accepted (row_count t)

-- a table that the passes before locals accept: length, rows, names and operands
pub record UpToOperands (t : List ℕ) : Type 0 where
  pub by_length : length_of t ≡ Accepted (row_count t)
  pub by_rows : rows_of t ≡ Accepted (row_count t)
  pub by_names : names_of t ≡ Accepted (row_count t)
  pub by_operands : operands_of t ≡ Accepted (row_count t)
