-- The kinds that a stretch of rows declares: how many there are, which stands where, and where a stretch ends and the next begins.
use Prim.Native.Nat.{ℕ, zero, suc, ◌+◌, ◌-◌, ◌<◌, ◌≤◌}
use mathlib.Core.Path.{◌≡◌, refl, sym, ◌∙◌}
use mathlib.Core.List.{List, [], ◌∷◌, ◌++◌}
use mathlib.Core.Option.{none, some}
use native.Mathlib.Nat.{add-zero, zero-add}
use native.Mathlib.Decide.{dec_lt}
use native.Mathlib.Omega.{arith}
use lib.ListN.{length, get_elem? as nth}
use Rattle.table.specs.Rows.{row_at}
use Rattle.declarations.specs.Program.{row_kind, kinds_from, kinds_of}
use Rattle.steps.proofs.Laws.{length-kinds}

-- the kind at a place is that of the row there
from_at : (t : List ℕ) (i n j : ℕ) → j < n → nth (kinds_from t i n) j ≡ some (row_kind (row_at t (i + j)))
unfolding kinds_from
from_at t i zero j h = absurd (omega arith)
from_at t i (suc n) zero h = rw add-zero
from_at t i (suc n) (suc j) h = let e : i + 1 + j ≡ i + suc j = omega arith in rw (← e) (from_at t (i + 1) n j (omega arith))

-- the same of the rows between two
pub kind-at : (t : List ℕ) (from to j : ℕ) → j < to - from → nth (kinds_of t from to) j ≡ some (row_kind (row_at t (from + j)))
unfolding kinds_of
kind-at t from to j h = from_at t from (to - from) j h

-- a stretch in two parts
from_split : (t : List ℕ) (i m n : ℕ) → kinds_from t i (m + n) ≡ kinds_from t i m ++ kinds_from t (i + m) n
unfolding kinds_from
from_split t i zero n = rw (zero-add, add-zero)
from_split t i (suc m) n =
    let e : suc m + n ≡ suc (m + n) = omega arith in
    let f : i + suc m ≡ i + 1 + m = omega arith in
    rw (e, f, from_split t (i + 1) m n)

-- the same of the rows between two, split at a third
pub kinds-split : (t : List ℕ) (from at to : ℕ) → from ≤ at → at ≤ from + (to - from) → kinds_of t from to ≡ kinds_of t from at ++ kinds_of t at to
unfolding kinds_of
kinds-split t from at to lo hi =
    let e : at - from + (to - at) ≡ to - from = omega arith in
    let f : from + (at - from) ≡ at = omega arith in
    rw (← e) (from_split t from (at - from) (to - at) ∙ rw f)

-- what stands at no place of a list is nothing
nth_past : {A : Type 0} (xs : List A) (j : ℕ) → length xs ≤ j → nth xs j ≡ none
nth_past [] j h = refl
nth_past (x ∷ xs) zero h = absurd (omega arith)
nth_past (x ∷ xs) (suc j) h = nth_past xs j (omega arith)

-- some is not none
none-some : {A : Type 0} {x : A} → none ≡ some x → ⊥
none-some e = let z : ◌≡◌ {A = ℕ} 0 1 = cc in omega arith

-- what stands at a place stands within the list
nth_inside : {A : Type 0} (xs : List A) (j : ℕ) {x : A} → nth xs j ≡ some x → j < length xs
nth_inside xs j e = go (dec_lt j (length xs))
  where
    go : Dec (j < length xs) → j < length xs
    go (yes h) = h
    go (no h) = absurd (none-some (sym (nth_past xs j (omega arith)) ∙ e))

-- a kind that stands at a place is that of the row there
pub kind-there : (t : List ℕ) (from to j k : ℕ) → nth (kinds_of t from to) j ≡ some k → (j < to - from) × (row_kind (row_at t (from + j)) ≡ k)
kind-there t from to j k e =
    let h : j < to - from = omega (arith, nth_inside (kinds_of t from to) j e, length-kinds t from to) in
    let q : some (row_kind (row_at t (from + j))) ≡ some k = sym (kind-at t from to j h) ∙ e in
    (h, cc)
