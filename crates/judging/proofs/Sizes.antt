-- In a table that the rows pass accepts no procedure is over a limit: what the code of the locals pass answers is what the pass answers.
use Prim.Native.Nat.{ℕ}
use mathlib.Core.Path.{◌≡◌}
use mathlib.Core.List.{List}
use Rattle.table.specs.Verdicts.{Accepted}
use Rattle.table.specs.Index.{index_of}
use Rattle.rows.specs.Rows.{rows_of}
use Rattle.locals.specs.Locals.{local_fault, locals_of}
use Rattle.locals.specs.code.Within.{locals_within}
use Rattle.sizes.proofs.Sizes.{none_passed_over}

module _ (t : List ℕ) (n : ℕ) (e : rows_of t ≡ Accepted n) where
  pub locals-within : locals_within (index_of t) t ≡ locals_of t
  unfolding locals_within locals_of
  locals-within = none_passed_over t n e (λ (q : ℕ). local_fault t)
