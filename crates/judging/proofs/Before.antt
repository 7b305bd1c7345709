-- Numbers 18 and 19 alter no verdict but for these two numbers: a table is accepted exactly if it was, and refused at the row at which it was.
use Prim.Native.Nat.{ℕ, zero, suc, ◌+◌}
use mathlib.Core.Path.{◌≡◌, refl, sym, ap, ap₂, ◌∙◌}
use mathlib.Core.Bool.{Bool, true, false, cond, ◌||◌}
use mathlib.Core.List.{List, [], ◌∷◌}
use mathlib.Core.Logic.{◌↔◌}
use native.Mathlib.Omega.{arith}
use Rattle.laws.specs.First.{first_fault, unless}
use Rattle.laws.specs.Lists.{member}
use Rattle.laws.proofs.Lists.{disjoint, not_in}
use Rattle.table.specs.declared.Row.{Row}
use Rattle.table.specs.Verdicts.{Verdict, Accepted, Refused, and_then}
use Rattle.table.specs.Rows.{row_count, row_at}
use Rattle.table.specs.Refusals.{wrong_value, wrong_guard, length_refusals}
use Rattle.rows.specs.declared.Above.{Above}
use Rattle.rows.specs.Rows.{length_of, rows_of, misplaced, too_many, unused_byte, bad_value, bad_guard, row_fault, fault_at, above_at, Faultless}
use Rattle.rows.proofs.Faults.{faultless}
use Rattle.declarations.proofs.Passes.{refused-accepted}
use Rattle.names.specs.Names.{names_of}
use Rattle.operands.specs.Operands.{operands_of}
use Rattle.locals.specs.Locals.{locals_of}
use Rattle.leaks.specs.Leaks.{leaks_of}
use Rattle.judging.specs.Judging.{judge_of, in_order, passes}
use Rattle.judging.specs.Before.{row_fault_before, rows_before, judge_before, old_number, in_old_numbers}
use Rattle.judging.proofs.Numbers.{length-number, later_refusals, after-rows}

-- A row's old number is its new one with 18 and 19 read as 4.
pub fault_before : (s : Above) (row : Row) → row_fault_before s row ≡ old_number (row_fault s row)
unfolding row_fault_before row_fault old_number member
fault_before s row = go (misplaced s row) (too_many s row) (unused_byte row) (bad_value s row) (bad_guard s row)
  where
    go : (a b c d e : Bool) → cond a 2 (cond b 3 (cond (c || d || e) 4 0)) ≡ old_number (cond a 2 (cond b 3 (cond c 4 (cond d 18 (cond e 19 0)))))
    go true b c d e = refl
    go false true c d e = refl
    go false false true d e = refl
    go false false false true e = refl
    go false false false false true = refl
    go false false false false false = refl

-- a fault stays one, and no fault none
old_fault : (k : ℕ) → (m : ℕ) × (old_number (suc k) ≡ suc m)
unfolding old_number
old_fault k = go (member (suc k) (wrong_value ∷ wrong_guard ∷ []))
  where
    go : (b : Bool) → (m : ℕ) × (cond b 4 (suc k) ≡ suc m)
    go true = (3, refl)
    go false = (k, refl)

old_none : (k : ℕ) → old_number k ≡ 0 → k ≡ 0
old_none zero e = refl
old_none (suc k) e = let f = old_fault k in absurd (omega (arith, e, f.1))

-- so a row is without fault in the old numbers exactly if none of the five tests holds, as in the new ones
pub faultless_before : (s : Above) (row : Row) → (row_fault_before s row ≡ 0) ↔ Faultless s row
unfolding old_number member
faultless_before s row = (λ e. (faultless s row).0 (old_none _ (sym (fault_before s row) ∙ e)), λ f. fault_before s row ∙ ap old_number ((faultless s row).1 f))

-- The first faulty row stays so.
firsts : (f g : ℕ → ℕ) → ((i : ℕ) → f i ≡ old_number (g i)) → (i left : ℕ) → first_fault Accepted Refused f i left ≡ in_old_numbers (first_fault Accepted Refused g i left)
unfolding first_fault old_number member
firsts f g same i zero = refl
firsts f g same i (suc left) = go (g i) refl (firsts f g same (i + 1) left)
  where
    go : (k : ℕ) → g i ≡ k → first_fault Accepted Refused f (i + 1) left ≡ in_old_numbers (first_fault Accepted Refused g (i + 1) left)
        → unless (f i) (Refused (f i) i) (first_fault Accepted Refused f (i + 1) left) ≡ in_old_numbers (unless (g i) (Refused (g i) i) (first_fault Accepted Refused g (i + 1) left))
    go zero e ih = rw (same i, e) ih
    go (suc k) e ih = let z : f i ≡ suc (old_fault k).0 = same i ∙ ap old_number e ∙ (old_fault k).1 in rw (z, e) (ap (λ (m : ℕ). Refused m i) (sym (old_fault k).1))

pub rows_before_lem : (t : List ℕ) → rows_before t ≡ in_old_numbers (rows_of t)
unfolding rows_before rows_of fault_at
rows_before_lem t = firsts _ _ (λ i. fault_before (above_at t i) (row_at t i)) 0 (row_count t)

-- no other pass gives 18 or 19
old_same : (numbers : List ℕ) (v : Verdict) → disjoint numbers (wrong_value ∷ wrong_guard ∷ []) ≡ true → ((number row : ℕ) → v ≡ Refused number row → member number numbers ≡ true) → in_old_numbers v ≡ v
unfolding old_number
old_same numbers (Accepted n) apart own = refl
old_same numbers (Refused number row) apart own = rw (not_in numbers (wrong_value ∷ wrong_guard ∷ []) number apart (own number row refl))

old_then : (v w : Verdict) → in_old_numbers (and_then v w) ≡ and_then (in_old_numbers v) (in_old_numbers w)
old_then (Accepted n) w = refl
old_then (Refused number row) w = refl

-- the old verdict is the new one with 18 and 19 read as 4
pub judge-before : (t : List ℕ) → judge_before t ≡ in_old_numbers (judge_of t)
unfolding judge_before judge_of passes in_order disjoint member
judge-before t =
    let later = in_order (names_of ∷ operands_of ∷ locals_of ∷ leaks_of ∷ []) t in
    sym (
    old_then (length_of t) (and_then (rows_of t) later) ∙ ap₂ and_then (old_same length_refusals (length_of t) refl (λ number row. length-number t))
    (old_then (rows_of t) later ∙ ap₂ and_then (sym (rows_before_lem t)) (old_same later_refusals later refl (λ number row. after-rows t)))
    )

-- which tables are accepted does not alter
pub accepted-before : (t : List ℕ) (n : ℕ) → (judge_of t ≡ Accepted n) ↔ (judge_before t ≡ Accepted n)
accepted-before t n = (λ e. judge-before t ∙ ap in_old_numbers e, λ e. back (judge_of t) (sym (judge-before t) ∙ e))
  where
    back : (v : Verdict) → in_old_numbers v ≡ Accepted n → v ≡ Accepted n
    back (Accepted m) e = e
    back (Refused number row) e = absurd (refused-accepted e)
