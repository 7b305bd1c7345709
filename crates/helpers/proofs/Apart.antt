-- Marks are of private procedures only, and none comes to procedures that stand apart.
use Prim.Native.Nat.{ℕ, zero, suc, ◌+◌, ◌-◌, ◌*◌, ◌/◌, ◌<◌}
use mathlib.Core.Path.{◌≡◌, refl, ap, sym, ◌∙◌}
use mathlib.Core.List.{List}
use mathlib.Core.Bool.{Bool, true, false, not, false≢true, ◌&&◌}
use mathlib.Core.Logic.{◌⊎◌, ⊎_elim}
use native.Mathlib.Omega.{arith}
use borrow.Author.Tests.{eqb-true, not-true}
use lib.ListN.{length, get_or}
use Rattle.laws.specs.Lists.{tabulate}
use Rattle.laws.proofs.Lists.{length-tabulate, get_d_tabulate}
use Rattle.laws.proofs.Tests.{and_both, both_and}
use Rattle.table.specs.Format.{op_call}
use Rattle.reach.specs.Reach.{At}
use Rattle.reach.proofs.Laws.{at-below}
use Rattle.flow.specs.Walks.{Slot, empty, mark_of}
use Rattle.flow.specs.Places.{operand_place, local_place}
use Rattle.flow.specs.code.Paths.{at_first, onwards}
use Rattle.flow.proofs.Paths.{node_div}
use Rattle.flow.proofs.Marks.{in_local, on_operand}
use Rattle.helpers.specs.Marks.{Procedure, per_procedure, parameter_of, result_of, step_under, WalkUnder, Below}
use Rattle.helpers.specs.Rounds.{given_of}
use Rattle.helpers.proofs.Fits.{Fits, Walkable}
use Rattle.helpers.proofs.Under.{length-fresh, fresh-under, bare_inv, start_inv, PathUnder, Sent, path_mono, path_below, to_path, sends_inv, sends-below}
use Rattle.helpers.proofs.Smallest.{smallest_sent}

-- `out` tells procedures that make no mark, call none that is private and not told, and have helpers that are told as they are
pub record Apart (code : ℕ → Procedure) (count : ℕ) (out : ℕ → Bool) : Type 0 where
  pub plain : (q : ℕ) → q < count → out q ≡ true → (i r : ℕ) → get_or ((code q).step i).fresh r false ≡ false
  pub calls : (q : ℕ) → q < count → out q ≡ true → (i : ℕ) → i < (code q).size → ((code q).step i).opcode ≡ op_call
      → ((code ((code q).step i).operand).is_private ≡ false) ⊎ (out ((code q).step i).operand ≡ true)
  pub helpers : (q : ℕ) → q < count → (i : ℕ) → (code q).helper i ≡ true → ((code ((code q).step i).operand).is_private ≡ true) × (out ((code q).step i).operand ≡ out q)

module _ (code : ℕ → Procedure) (count : ℕ) (fit : Fits code count) (out : ℕ → Bool) (apart : Apart code count out) where
  -- marks that are of private procedures that do not stand apart
  Kept : List Bool → Type 0
  Kept m = (v : ℕ) → At m v → ((code (v / per_procedure)).is_private ≡ true) × (out (v / per_procedure) ≡ false)

  kept_at : (m : List Bool) → Kept m → (q x : ℕ) → x < per_procedure → At m (per_procedure * q + x) → ((code q).is_private ≡ true) × (out q ≡ false)
  unfolding Kept
  kept_at m k q x h a = rw (node_div per_procedure q x h) at (k (per_procedure * q + x) a)

  -- under such marks nothing that a procedure apart pushes is marked of itself
  bare_none : (m : List Bool) → Kept m → (q : ℕ) → q < count → out q ≡ true → (i : ℕ) → i < (code q).size → (r : ℕ) → r < length (step_under m ((code q).step i)).fresh
      → get_or (step_under m ((code q).step i)).fresh r false ≡ true → ⊥
  unfolding result_of
  bare_none m kept q h o i l r b e =
      let c : r < length ((code q).step i).fresh = rw length-fresh at b in
      ⊎_elim
      (λ a.
      let d = eqb-true ((code q).step i).opcode op_call a.0 in
      let k = kept_at m kept ((code q).step i).operand (16 + r) (omega (arith, c, (fit.called q h i d).1)) a.1 in
      ⊎_elim (λ z. false≢true (sym z ∙ k.0)) (λ z. false≢true (sym k.1 ∙ z)) (apart.calls q h o i l d))
      (λ a. false≢true (sym (apart.plain q h o i r) ∙ a.1))
      (fresh-under m ((code q).step i) r c e)

  -- under such marks no path of a procedure apart comes to a mark
  no_path : (m : List Bool) → Kept m → (q : ℕ) → q < count → out q ≡ true → {k i x : ℕ} → PathUnder code m q k i x → (y : ℕ) → x ≡ suc y → ⊥
  unfolding parameter_of result_of
  no_path m kept q h o (at_first t) y e =
      let s = start_inv (parameter_of m q) (code q).params (rw e at t) in
      let k = kept_at m kept q y (omega (arith, s.0, fit.fits q h, fit.small q h)) s.1 in
      false≢true (sym k.1 ∙ o)
  no_path m kept q h o (onwards {i = i} {x = zero} p n t) y e =
      ⊎_elim
      (λ z. absurd (omega (arith, z, e)))
      (λ f. bare_none m kept q h o i (path_below code count fit m q h p) f.0 f.1 f.2)
      (bare_inv (λ (i : ℕ). step_under m ((code q).step i)) i t)
  no_path m kept q h o (onwards {x = suc x} p n t) y e = no_path m kept q h o p x refl

  -- the marks of m that are kept
  keeps : List Bool → ℕ → Bool
  keeps m v = get_or m v false && ((code (v / per_procedure)).is_private && not (out (v / per_procedure)))

  restrict : List Bool → List Bool
  restrict m = tabulate (keeps m) (per_procedure * count)

  restrict_inv : (m : List Bool) (v : ℕ) → At (restrict m) v → At m v × ((code (v / per_procedure)).is_private ≡ true) × (out (v / per_procedure) ≡ false)
  unfolding restrict keeps
  restrict_inv m v a =
      let b : v < per_procedure * count = rw length-tabulate at (at-below (restrict m) v a) in
      let c = and_both (get_or m v false) ((code (v / per_procedure)).is_private && not (out (v / per_procedure))) (sym (get_d_tabulate (keeps m) false (per_procedure * count) v b) ∙ a) in
      let d = and_both (code (v / per_procedure)).is_private (not (out (v / per_procedure))) c.1 in
      (c.0, d.0, not-true (out (v / per_procedure)) d.1)

  restrict_mem : (m : List Bool) (v : ℕ) → v < per_procedure * count → At m v → (code (v / per_procedure)).is_private ≡ true → out (v / per_procedure) ≡ false → At (restrict m) v
  unfolding restrict keeps
  restrict_mem m v b a p o = get_d_tabulate (keeps m) false (per_procedure * count) v b ∙ both_and a (both_and p (rw o refl))

  restrict_kept : (m : List Bool) → Kept (restrict m)
  unfolding Kept
  restrict_kept m v a = let r = restrict_inv m v a in (r.1, r.2)

  -- they are closed if m is
  restrict_sent : (m : List Bool) → Sent code count m → Sent code count (restrict m)
  restrict_sent m s q h k i j p v t =
      let below : Below (restrict m) m = λ v a. (restrict_inv m v a).0 in
      let inside = in_trust (out q) refl in
      let a = s q h k i j (path_mono code (restrict m) m below q p) v t in
      let w = sends_inv (code q) q i j t in
      let b = sends-below code count fit q h i j t in
      ⊎_elim
      (λ c.
      let d = fit.helped q h i c.0 in
      let o = apart.helpers q h i c.0 in
      let z : v / per_procedure ≡ ((code q).step i).operand = ap (λ (u : ℕ). u / per_procedure) c.1 ∙ node_div per_procedure ((code q).step i).operand (((code q).step i).takes - 1 - j) (omega (arith, d.1)) in
      restrict_mem m v b a (rw z o.0) (rw z (o.1 ∙ inside)))
      (λ c.
      let z : v / per_procedure ≡ q = ap (λ (u : ℕ). u / per_procedure) c.2 ∙ node_div per_procedure q (16 + (((code q).step i).takes - 1 - j)) (omega (arith, fit.returned q h i c.1)) in
      restrict_mem m v b a (rw z c.0) (rw z inside))
      w.1
    where
      in_trust : (x : Bool) → out q ≡ x → out q ≡ false
      in_trust true e = let y : operand_place j ≡ suc (16 + j) = omega arith in absurd (no_path (restrict m) (restrict_kept m) q h e p (16 + j) y)
      in_trust false e = e

  -- THE SMALLEST MARKS are of private procedures that do not stand apart
  pub given-kept : (v : ℕ) → At (given_of code count) v → ((code (v / per_procedure)).is_private ≡ true) × (out (v / per_procedure) ≡ false)
  given-kept v a =
      let least = smallest_sent code count fit in
      let r = restrict_inv (given_of code count) v (least.1 (restrict (given_of code count)) (restrict_sent (given_of code count) least.0) v a) in
      (r.1, r.2)

  -- and no path, nor walk, of a procedure apart comes to a mark
  pub apart_path : (q : ℕ) → q < count → out q ≡ true → {k i y : ℕ} → PathUnder code (given_of code count) q k i (suc y) → ⊥
  unfolding Kept
  apart_path q h o {y = y} p = no_path (given_of code count) given-kept q h o p y refl

  module _ (walkable : Walkable code count) (q : ℕ) (h : q < count) (o : out q ≡ true) {k i : ℕ} {ls : List Slot} {ms : List Bool} (w : WalkUnder code (given_of code count) q k i ls ms) where
    pub apart_local : (l : ℕ) → l < 16 → mark_of (get_or ls l empty) ≡ true → ⊥
    apart_local l b e = let z : local_place l ≡ suc l = omega arith in apart_path q h o (rw z at (to_path code count fit walkable (given_of code count) q h w (in_local l b e)))

    pub apart_operand : (j : ℕ) → j < 16 → get_or ms j false ≡ true → ⊥
    apart_operand j b e = let z : operand_place j ≡ suc (16 + j) = omega arith in apart_path q h o (rw z at (to_path code count fit walkable (given_of code count) q h w (on_operand j b e)))
