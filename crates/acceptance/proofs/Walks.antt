-- In a table that every pass accepts, what holds wherever a walk of a procedure arrives: locals, marks, and no marks in a guest.
use Prim.Native.Nat.{ℕ, ◌<◌}
use mathlib.Core.Path.{◌≡◌, refl}
use mathlib.Core.Bool.{Bool, true, false}
use mathlib.Core.List.{List}
use lib.ListN.{length, get_or}
use Rattle.laws.proofs.Tests.{test_fails}
use Rattle.table.specs.Verdicts.{Accepted}
use Rattle.table.specs.Rows.{row_count}
use Rattle.table.specs.Index.{index_of}
use Rattle.declarations.specs.Program.{code_of}
use Rattle.flow.specs.Walks.{Slot, empty, full}
use Rattle.sizes.proofs.Rows.{own}
use Rattle.leaks.specs.Leaks.{in_trusted}
use Rattle.judging.specs.Judging.{AcceptedTable, judge_of}
use Rattle.judging.proofs.Accepts.{accepted, up_to-operands}
use Rattle.acceptance.specs.Checked.{WalkOf, Unmarked, Checked}
use Rattle.acceptance.specs.Refusals.{HandsMarked, LocalCause, used-empty, stored-over, left_behind, LeakCause, given-away, returned}
use Rattle.acceptance.proofs.Shown.{arrived}
use Rattle.acceptance.proofs.Helpers.{smallest}
use Rattle.acceptance.proofs.Guests.{guest-clean}
use Rattle.acceptance.proofs.Causes.{needs_three}
use Rattle.acceptance.proofs.Refusals.{locals-accepted, leaks_accepted}

-- what is not empty is full
slot_full : (s : Slot) → (s ≡ empty → ⊥) → (m : Bool) × (s ≡ full m)
slot_full empty h = absurd (h refl)
slot_full (full m) h = (m, refl)

-- what is not full is empty
slot_empty : (s : Slot) → ((m : Bool) → s ≡ full m → ⊥) → s ≡ empty
slot_empty empty h = refl
slot_empty (full m) h = absurd (h m refl)

-- Where a walk of procedure q of an accepted table arrives.
module _ (t : List ℕ) (a : AcceptedTable t) (q : ℕ) (there : q < (index_of t).procedures) (few : q < 128) {k i : ℕ} {ls : List Slot} {ms : List Bool} (w : WalkOf t q k i ls ms) where
  -- at an instruction that is there
  inside : i < row_count (code_of t (own t q))
  inside = (arrived t (up_to-operands a) q there few w).inside

  -- it earns no number
  no_local : {number : ℕ} → LocalCause t q i number → ⊥
  no_local c = (locals-accepted t (up_to-operands a)).0 a.by_locals _ _ (q, i, there, inside, refl, c)

  no_leak : {number : ℕ} → LeakCause t q i number → ⊥
  no_leak c = (leaks_accepted t (up_to-operands a)).0 a.by_leaks _ _ (q, i, there, inside, refl, c)

  -- what a Call takes, and what Ret returns, is not marked
  none-taken : (ks : List ℕ) → (in_trusted t (index_of t) (own t q) ≡ true → HandsMarked t q i ks → ⊥) → Unmarked ks ms
  none-taken ks none before after e = go (in_trusted t (index_of t) (own t q)) refl
    where
      go : (b : Bool) → in_trusted t (index_of t) (own t q) ≡ b → get_or ms (length after) false ≡ false
      go true tr = test_fails _ (λ z. none tr (before, after, e, (k, ls, ms, w, z)))
      go false g = (guest-clean t (up_to-operands a) q there w g).1 (length after)

-- what an accepted table gives at the end of every walk
pub checked : (t : List ℕ) → AcceptedTable t → (q : ℕ) → q < (index_of t).procedures → q < 128 → {k i : ℕ} {ls : List Slot} {ms : List Bool} → WalkOf t q k i ls ms → Checked t q i ls ms
checked t a q there few {k} {i} {ls} {ms} w = record {
  full-there = λ e. slot_full _ (λ z. no_local t a q there few w (used-empty (needs_three _ e) (k, ls, ms, w, z)));
  none_over = λ e r. slot_empty _ (λ m z. no_local t a q there few w (stored-over e r (k, ls, ms, m, w, z)));
  none_left = λ e l h r. slot_empty _ (λ m z. no_local t a q there few w (left_behind e l h r (k, ls, ms, m, w, z)));
  none-given = λ e h. none-taken t a q there few w _ (λ tr g. no_leak t a q there few w (given-away tr e h g));
  given-marked = (smallest t (up_to-operands a)).closed.given q i there w;
  none-returned = λ e h. none-taken t a q there few w _ (λ tr g. no_leak t a q there few w (returned tr e h g));
  returned-marked = (smallest t (up_to-operands a)).closed.returned q i there w;
  guest-clean = guest-clean t (up_to-operands a) q there w;
}

-- the same, from the verdict
pub judged : (t : List ℕ) (n : ℕ) → judge_of t ≡ Accepted n → (q : ℕ) → q < (index_of t).procedures → q < 128 → {k i : ℕ} {ls : List Slot} {ms : List Bool} → WalkOf t q k i ls ms
    → Checked t q i ls ms
judged t n e = checked t (accepted t n e)
