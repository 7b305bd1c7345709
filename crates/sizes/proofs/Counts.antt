-- What the rows pass counts above a row, and what its limits give: procedures below 128, at most 4 results.
use Prim.Native.Nat.{ℕ, zero, suc, ◌+◌, ◌-◌, ◌<◌, ◌≤◌}
use mathlib.Core.Path.{◌≡◌, refl, sym, ap, ◌∙◌}
use mathlib.Core.Bool.{Bool, true, false, not}
use mathlib.Core.List.{List, []}
use native.Mathlib.Nat.{add-zero}
use native.Mathlib.Numerals.{add-one}
use native.Mathlib.Decide.{dec_lt}
use native.Mathlib.Omega.{arith}
use borrow.Author.Tests.{eqb-true, eq-eqb, leb-false, not-true}
use lib.ListN.{get_or, get_or-eq_default}
use Rattle.laws.specs.Lists.{member, every, count, nth}
use Rattle.laws.proofs.Lists.{every-at, count-zero, count_yes, count_no}
use Rattle.table.specs.declared.Row.{Row}
use Rattle.table.specs.Format.{procedure_kind, result_kind}
use Rattle.table.specs.Rows.{row_count, row_at, kind_at, is_kind}
use Rattle.table.specs.Index.{index_of, indexed_rows, results_start, code_start, code_end}
use Rattle.table.proofs.Laws.{procedure-parts, procedure-locals, procedure-results}
use Rattle.declarations.proofs.Laws.{nth-below}
use Rattle.rows.specs.declared.Above.{Above}
use Rattle.rows.proofs.Faults.{faultless}
use Rattle.rows.specs.Rows.{Faultless, fault_at, too_many, above_at, below_row, count_below, count_of, owned, limits}
use Rattle.sizes.proofs.Sizes.{nth-hit}
use Rattle.sizes.proofs.Rows.{count-nth}

-- A count of rows of kind k, as it is carried from row to row.
module _ (k : ℕ) (number : Above → ℕ) (carried : (s : Above) (row : Row) → number (below_row s row) ≡ count_below k row.kind (number s)) (t : List ℕ) where
  -- below row i
  pub number-next : (i : ℕ) → number (above_at t (i + 1)) ≡ count_below k (kind_at t i) (number (above_at t i))
  unfolding above_at kind_at
  number-next i = rw add-one (carried (above_at t i) (row_at t i))

  -- over rows of this kind it goes up
  pub number_up : (a d : ℕ) → ((j : ℕ) → a ≤ j → j < a + d → k ≡ kind_at t j) → number (above_at t (a + d)) ≡ number (above_at t a) + d
  unfolding count_below
  number_up a zero h = simp add-zero
  number_up a (suc d) h =
      let s : a + suc d ≡ a + d + 1 = omega arith in
      let ih = number_up a d (λ j lo hi. h j lo (omega arith)) in
      let q = h (a + d) (omega arith) (omega arith) in
      let z : number (above_at t (a + d + 1)) ≡ number (above_at t (a + d)) + 1 = number-next (a + d) ∙ rw (← q, eq-eqb k k refl) in
      rw s (omega (arith, z, ih))

  -- over rows that leave it, it stays
  pub number_still : (kind a d : ℕ) → ((n : ℕ) → count_below k kind n ≡ n) → ((j : ℕ) → a ≤ j → j < a + d → kind ≡ kind_at t j) → number (above_at t (a + d)) ≡ number (above_at t a)
  number_still kind a zero c h = simp add-zero
  number_still kind a (suc d) c h =
      let s : a + suc d ≡ a + d + 1 = omega arith in
      let q = h (a + d) (omega arith) (omega arith) in
      rw s (number-next (a + d) ∙ rw (← q, c) (number_still kind a d c (λ j lo hi. h j lo (omega arith))))

  -- where rows of this kind are numbered through the table, it is a count of rows
  pub number-count : number (above_at t 0) ≡ 0 → ((kind : ℕ) → member k (get_or owned kind []) ≡ false) → (i : ℕ) → number (above_at t i) ≡ count (is_kind t k) i
  unfolding count_below is_kind
  number-count start free zero = start ∙ sym (count-zero (is_kind t k))
  number-count start free (suc i) = let r = go (is_kind t k i) refl (number-count start free i) in rw add-one at r
    where
      go : (b : Bool) → is_kind t k i ≡ b → number (above_at t i) ≡ count (is_kind t k) i → number (above_at t (i + 1)) ≡ count (is_kind t k) (i + 1)
      go true e ih = number-next i ∙ rw (e, count_yes (is_kind t k) i e, ih)
      go false e ih = number-next i ∙ rw (e, free, count_no (is_kind t k) i e, ih)

-- a kind whose rows are numbered through the table
pub no_owner : (k : ℕ) → every (λ (i : ℕ). not (member k (get_or owned i []))) 9 ≡ true → (kind : ℕ) → member k (get_or owned kind []) ≡ false
unfolding owned member
no_owner k free kind = go (dec_lt kind 9)
  where
    go : Dec (kind < 9) → member k (get_or owned kind []) ≡ false
    go (yes h) = not-true _ (every-at (λ (i : ℕ). not (member k (get_or owned i []))) 9 kind free h)
    go (no h) = rw (get_or-eq_default owned [] {n = kind} (omega arith))

-- a row that passes no limit has fewer of its kind above
pub low : (s : Above) (row : Row) → too_many s row ≡ false → count_of s row.kind < get_or limits row.kind 0
unfolding too_many
low s row e = leb-false _ _ e

-- A table whose rows have no fault.
module _ (t : List ℕ) (fine : (i : ℕ) → i < row_count t → fault_at t i ≡ 0) where
  -- the tests of its rows
  pub tests : (i : ℕ) → i < row_count t → Faultless (above_at t i) (row_at t i)
  unfolding fault_at
  tests i h = (faultless (above_at t i) (row_at t i)).0 (fine i h)

  -- where rows are numbered through the table, their numbers are below the limit
  pub number-few : (k : ℕ) (number : Above → ℕ) → ((s : Above) (row : Row) → number (below_row s row) ≡ count_below k row.kind (number s)) → number (above_at t 0) ≡ 0
      → every (λ (i : ℕ). not (member k (get_or owned i []))) 9 ≡ true → ((s : Above) → count_of s k ≡ number s) → (q : ℕ) → q < count (is_kind t k) (indexed_rows t) → q < get_or limits k 0
  unfolding is_kind kind_at
  number-few k number carried start free counts q there =
      let r = nth (is_kind t k) (indexed_rows t) q in
      let e : (row_at t r).kind ≡ k = eqb-true _ _ (nth-hit (is_kind t k) (indexed_rows t) q there) in
      let b = nth-below (is_kind t k) (indexed_rows t) q there in
      let l = low (above_at t r) (row_at t r) (tests r (omega (arith, b))).within in
      let m : count_of (above_at t r) k < get_or limits k 0 = rw e at l in
      let c = number-count k number carried t start (no_owner k free) r in
      omega (arith, m, counts (above_at t r), c, count-nth (is_kind t k) (indexed_rows t) q there)

  -- the number of a procedure is below 128
  pub procedure-few : (q : ℕ) → q < (index_of t).procedures → q < 128
  unfolding index_of above_at below_row limits count_of every owned member
  procedure-few q there = number-few procedure_kind (λ (s : Above). s.procedures) (λ s row. refl) refl refl (λ s. refl) q there

  -- a result is below its limit
  result_low : (i : ℕ) → i < row_count t → 6 ≡ kind_at t i → (above_at t i).results < 4
  unfolding count_of limits kind_at
  result_low i h q = rw (← q) at (low (above_at t i) (row_at t i) (tests i h).within)

  -- a procedure at row i has at most 4 results
  pub results-few : (i : ℕ) → i < indexed_rows t → procedure_kind ≡ kind_at t i → code_start t i - results_start t i ≤ 4
  unfolding below_row count_below owned member
  results-few i h k = go (dec_lt (results_start t i + 4) (code_start t i))
    where
      parts : (i < results_start t i) × (results_start t i ≤ code_start t i) × (code_start t i ≤ code_end t i) × (code_end t i ≤ indexed_rows t)
      parts = procedure-parts t i h

      go : Dec (results_start t i + 4 < code_start t i) → code_start t i - results_start t i ≤ 4
      go (yes l) =
          let e : i + 1 + (results_start t i - (i + 1)) ≡ results_start t i = omega (arith, parts) in
          let z : (above_at t (i + 1)).results ≡ 0 = number-next result_kind (λ (s : Above). s.results) (λ s row. refl) t i ∙ rw (← k) refl in
          let still = number_still result_kind (λ (s : Above). s.results) (λ s row. refl) t 5 (i + 1) (results_start t i - (i + 1)) (λ n. refl) (λ j lo hi. procedure-locals t i (omega arith) (omega (arith, e))) in
          let at-start : (above_at t (results_start t i)).results ≡ 0 = ap (λ (j : ℕ). (above_at t j).results) (sym e) ∙ still ∙ z in
          let up = number_up result_kind (λ (s : Above). s.results) (λ s row. refl) t (results_start t i) 4 (λ j lo hi. procedure-results t i lo (omega arith)) in
          let m = result_low (results_start t i + 4) (omega (arith, parts)) (procedure-results t i (omega arith) l) in
          absurd (omega (arith, at-start, up, m))
      go (no l) = omega arith
