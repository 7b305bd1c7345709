-- The rows pass refuses exactly the lowest row that earns a number, with the lowest number that it earns.
use Prim.Native.Nat.{ℕ, ◌<◌, ◌≤◌}
use mathlib.Core.Path.{◌≡◌}
use mathlib.Core.List.{List}
use mathlib.Core.Logic.{◌↔◌, ◌⊎◌, inl, inr}
use native.Mathlib.Decide.{dec_lt, ℕ_discrete}
use native.Mathlib.Omega.{arith}
use Rattle.laws.proofs.First.{clean_all}
use Rattle.table.specs.Verdicts.{Accepted, Refused}
use Rattle.table.specs.Rows.{row_count}
use Rattle.declarations.proofs.Passes.{FirstRow, over_first}
use Rattle.rows.specs.Rows.{rows_of, fault_at}
use Rattle.sizes.proofs.Sizes.{rows_fine}
use Rattle.acceptance.specs.Refusals.{Lowest}
use Rattle.acceptance.specs.RowRefusals.{EarnsRow}
use Rattle.acceptance.proofs.Lowest.{lowest-refused}
use Rattle.acceptance.proofs.RowCauses.{row-shown, row-found}

module _ (t : List ℕ) where
  -- the first faulty row is the lowest that earns a number
  rows-lowest : {number row : ℕ} → rows_of t ≡ Refused number row → Lowest (EarnsRow t) number row
  unfolding rows_of
  rows-lowest {number} {row} e =
      let f = over_first (fault_at t) (row_count t) e in
      record { earned = (f.inside, rw f.number_is at (row-shown t row f.inside f.faulty)); first = below_or_there f }
    where
      below_or_there : FirstRow (fault_at t) (row_count t) number row → (number' row' : ℕ) → EarnsRow t number' row' → (row < row') ⊎ ((row ≡ row') × (number ≤ number'))
      below_or_there f number' row' (h, cause) = at (dec_lt row row') (dec_lt row' row) (row-found t row' h number' cause)
        where
          at : Dec (row < row') → Dec (row' < row) → (fault_at t row' ≡ 0 → ⊥) × (fault_at t row' ≤ number') → (row < row') ⊎ ((row ≡ row') × (number ≤ number'))
          at (yes l) d z = inl l
          at (no l) (yes d) z = absurd (z.0 (f.before row' d))
          at (no l) (no d) z = let q : row ≡ row' = omega arith in inr (q, rw (← f.number_is, q) z.1)

  -- a pass that accepts has no row that earns a number, and the converse
  rows_none : {n : ℕ} → rows_of t ≡ Accepted n → (number row : ℕ) → EarnsRow t number row → ⊥
  rows_none {n} e number row (h, cause) = (row-found t row h number cause).0 (rows_fine t n e row h)

  none_rows : ((number row : ℕ) → EarnsRow t number row → ⊥) → rows_of t ≡ Accepted (row_count t)
  unfolding rows_of
  none_rows none = clean_all Accepted Refused (fault_at t) (row_count t) (λ i h. go i h (ℕ_discrete (fault_at t i) 0))
    where
      go : (i : ℕ) → i < row_count t → Dec (fault_at t i ≡ 0) → fault_at t i ≡ 0
      go i h (yes z) = z
      go i h (no z) = absurd (none _ i (h, row-shown t i h z))

  -- what the rows pass refuses, and what it accepts
  pub rows-refused : (number row : ℕ) → (rows_of t ≡ Refused number row) ↔ Lowest (EarnsRow t) number row
  rows-refused number row = (rows-lowest, lowest-refused (EarnsRow t) (rows_of t) (λ number row e. rows-lowest e) (λ n e. rows_none e))

  pub rows-accepted : (rows_of t ≡ Accepted (row_count t)) ↔ ((number row : ℕ) → EarnsRow t number row → ⊥)
  rows-accepted = (rows_none, none_rows)
