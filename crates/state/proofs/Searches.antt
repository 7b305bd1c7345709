-- Laws of the searches for a room that is not in use and for an entry.
use Prim.Native.Nat.{ℕ, zero, suc, ◌+◌, ◌-◌, ◌<◌, ◌≤◌}
use mathlib.Core.Path.{◌≡◌, refl}
use mathlib.Core.Bool.{Bool, true, false, cond}
use Rattle.std.specs.Prelude.{Some, None, is_some}
use mathlib.Core.List.{List}
use native.Mathlib.Numerals.{add-one, sub-one}
use native.Mathlib.Omega.{arith}
use borrow.Author.Tests.{lt-ltb, le-ltb, ltb-true, ltb-false}
use lib.Dec.{ltb}
use lib.ListN.{get_or}
use Rattle.state.specs.declared.Operand.{Operand}
use Rattle.state.specs.declared.Operand.TheVariants.{Empty}
use Rattle.state.specs.code.Coding.{is_record}
use Rattle.state.specs.code.Layout.{room_cell, place_below}
use Rattle.state.specs.code.Rooms.{first_free}
use Rattle.state.specs.code.Entries.{is_under, last_under}

-- room r is in use; it is not; there are no more
module _ (cs : List Operand) (n r : ℕ) where
  pub free_next : r < n → is_record (get_or cs (room_cell r) Empty) ≡ true → first_free cs r (n - r) ≡ first_free cs (r + 1) (n - (r + 1))
  unfolding first_free
  free_next l h = let e : n - r ≡ suc (n - (r + 1)) = omega arith in rw (e, h, add-one r)

  pub free_here : r < n → is_record (get_or cs (room_cell r) Empty) ≡ false → first_free cs r (n - r) ≡ r
  unfolding first_free
  free_here l h = let e : n - r ≡ suc (n - (r + 1)) = omega arith in rw (e, h)

  pub free_none : n ≤ r → first_free cs r (n - r) ≡ r
  unfolding first_free
  free_none l = let e : n - r ≡ 0 = omega arith in rw e

-- a place that was found; none; what each says
module _ (n : ℕ) where
  pub place_here : {x i : ℕ} → x ≡ i → i < n → Some i ≡ place_below n x
  place_here {x} {i} e l = rw (e, lt-ltb i n l)

  pub place_none : {x : ℕ} → n ≤ x → None ≡ place_below n x
  place_none {x} l = rw (le-ltb x n l)

  pub found_at : (x : ℕ) {i : ℕ} → Some i ≡ place_below n x → (x ≡ i) × (x < n)
  found_at x {i} e = go (ltb x n) refl e
    where
      go : (b : Bool) → ltb x n ≡ b → Some i ≡ cond b (Some x) None → (x ≡ i) × (x < n)
      go true t q = (cc, ltb-true x n t)
      go false t q = absurd (cc)

  pub some_place : (x : ℕ) → is_some (place_below n x) ≡ ltb x n
  some_place x = go (ltb x n)
    where
      go : (b : Bool) → is_some (cond b (Some x) None) ≡ b
      go true = refl
      go false = refl

  pub found_none : (x : ℕ) → None ≡ place_below n x → n ≤ x
  found_none x e = go (ltb x n) refl e
    where
      go : (b : Bool) → ltb x n ≡ b → None ≡ cond b (Some x) None → n ≤ x
      go true t q = absurd (cc)
      go false t q = ltb-false x n t

-- the last of the first i entries is under the key; it is not; there are none
module _ (cs : List Operand) (y a absent : ℕ) where
  pub under-here : (i : ℕ) → 0 < i → is_under cs (i - 1) y a ≡ true → last_under cs y a absent i ≡ i - 1
  unfolding last_under
  under-here zero p h = absurd (omega arith)
  under-here (suc i) p h = rw sub-one (rw (rw sub-one at h))

  pub under_next : (i : ℕ) → 0 < i → is_under cs (i - 1) y a ≡ false → last_under cs y a absent i ≡ last_under cs y a absent (i - 1)
  unfolding last_under
  under_next zero p h = absurd (omega arith)
  under_next (suc i) p h = rw sub-one (rw (rw sub-one at h))

  pub under_none : (i : ℕ) → i ≤ 0 → last_under cs y a absent i ≡ absent
  unfolding last_under
  under_none zero p = refl
  under_none (suc i) p = absurd (omega arith)
