-- Marks are of private procedures only, and in a guest nothing is marked, in a table that the passes before locals accept.
use Prim.Native.Nat.{ℕ, ◌+◌, ◌*◌, ◌<◌, ◌≤◌}
use mathlib.Core.Path.{◌≡◌, refl, ◌∙◌}
use mathlib.Core.Bool.{Bool, true, false, not}
use mathlib.Core.List.{List}
use mathlib.Core.Logic.{inl, inr, ⊎_elim}
use native.Mathlib.Decide.{dec_lt}
use native.Mathlib.Omega.{arith}
use borrow.Author.Tests.{eqb-true, not-true}
use lib.Dec.{eqb}
use lib.ListN.{get_or, get_or-eq_default}
use Rattle.laws.proofs.Tests.{and_both, test_fails}
use Rattle.table.specs.Format.{op_call, max_locals, max_results}
use Rattle.table.specs.Rows.{row_count, row_at}
use Rattle.table.specs.Index.{index_of}
use Rattle.declarations.specs.Program.{local_count, parameter_count, instruction_in}
use Rattle.reach.specs.Reach.{At}
use Rattle.flow.specs.Walks.{Slot, empty, mark_of}
use Rattle.flow.proofs.Locals.{walk_count}
use Rattle.flow.proofs.Paths.{node_div}
use Rattle.steps.specs.Steps.{step_of, step_at}
use Rattle.sizes.proofs.Rows.{own}
use Rattle.sizes.proofs.Inside as Inside
use Rattle.helpers.specs.Marks.{per_procedure, parameter_of, result_of}
use Rattle.helpers.specs.Tables.{is_private, is_helper, procedure_of, marks_in}
use Rattle.helpers.proofs.Apart.{Apart, given-kept, apart_local, apart_operand}
use Rattle.helpers.proofs.Tied.{fits}
use Rattle.leaks.specs.Leaks.{in_trusted}
use Rattle.judging.specs.Judging.{UpToOperands}
use Rattle.acceptance.specs.Checked.{starts_in, WalkOf}
use Rattle.acceptance.proofs.Guest.{no_fresh}
use Rattle.acceptance.proofs.Shown.{flow-at, arrived}
use Rattle.acceptance.proofs.Helpers.{formed, walk_in, walkable}

-- none is marked if none of the first 16 is, and none is past them
all_clean : (marked : ℕ → Bool) → ((l : ℕ) → l < 16 → marked l ≡ true → ⊥) → ((l : ℕ) → 16 ≤ l → marked l ≡ false) → (l : ℕ) → marked l ≡ false
all_clean marked first past l = go (dec_lt l 16)
  where
    go : Dec (l < 16) → marked l ≡ false
    go (yes h) = test_fails (marked l) (first l h)
    go (no h) = past l (omega arith)

-- whether a procedure stands in a guest module
unfoldable is_guest : List ℕ → ℕ → Bool
is_guest t q = not (in_trusted t (index_of t) (own t q))

-- procedures of one module are guests alike
alike : (t : List ℕ) (p q : ℕ) → (own t p).owner ≡ (own t q).owner → is_guest t p ≡ is_guest t q
unfolding is_guest in_trusted
alike t p q e = rw e refl

-- one that is public is not private
public : (t : List ℕ) (q : ℕ) → (row_at t (own t q).row).a ≡ 1 → is_private t (own t q) ≡ false
unfolding is_private
public t q e = rw e refl

module _ (t : List ℕ) (a : UpToOperands t) where
  -- guests stand apart
  guests_apart : Apart (procedure_of t) (index_of t).procedures (is_guest t)
  unfolding procedure_of step_at step_of is_guest is_helper
  guests_apart = record {
    plain = λ q h o. no_fresh t q h (Inside.few t (formed a) q h) (row_count t) a.by_rows a.by_names (flow-at t a q h (Inside.few t (formed a) q h)) (not-true (in_trusted t (index_of t) (own t q)) o);
    calls = λ q h o i l e.
        ⊎_elim
        (λ x. inl (public t (instruction_in t (index_of t) q i).b x))
        (λ x. inr (alike t (instruction_in t (index_of t) q i).b q x ∙ o))
        ((flow-at t a q h (Inside.few t (formed a) q h) i l).may_call e);
    helpers = λ q h i e.
        let callee = (instruction_in t (index_of t) q i).b in
        let b = and_both (is_private t (own t callee)) (eqb (own t callee).owner (own t q).owner) (and_both (eqb (instruction_in t (index_of t) q i).a op_call) _ e).1 in
        (b.0, alike t callee q (eqb-true _ _ b.1));
  }

  -- so a mark is of a private procedure
  kept : (q x : ℕ) → x < per_procedure → At (marks_in t) (per_procedure * q + x) → is_private t (own t q) ≡ true
  unfolding marks_in procedure_of
  kept q x h m = rw (node_div per_procedure q x h) at (given-kept (procedure_of t) (index_of t).procedures (fits t (formed a)) (is_guest t) guests_apart (per_procedure * q + x) m).0

  pub parameter-private : (q l : ℕ) → l < max_locals → parameter_of (marks_in t) q l ≡ true → is_private t (own t q) ≡ true
  unfolding parameter_of
  parameter-private q l h m = kept q l (omega arith) m

  pub result-private : (q r : ℕ) → r < max_results → result_of (marks_in t) q r ≡ true → is_private t (own t q) ≡ true
  unfolding result_of
  result-private q r h m = kept q (16 + r) (omega arith) m

  -- where a walk of a guest arrives nothing is marked
  pub guest-clean : (q : ℕ) → q < (index_of t).procedures → {k i : ℕ} {ls : List Slot} {ms : List Bool} → WalkOf t q k i ls ms → in_trusted t (index_of t) (own t q) ≡ false
      → ((l : ℕ) → mark_of (get_or ls l empty) ≡ false) × ((j : ℕ) → get_or ms j false ≡ false)
  unfolding marks_in is_guest
  guest-clean q h {k} {i} {ls} {ms} w g =
      let f = fits t (formed a) in
      let v = walk_in t (marks_in t) q w in
      let n = walk_count (starts_in t q) (parameter_count t (own t q)) (local_count (own t q)) w in (
        all_clean (λ (l : ℕ). mark_of (get_or ls l empty)) (apart_local (procedure_of t) (index_of t).procedures f (is_guest t) guests_apart (walkable t a) q h (rw g refl) v)
            (λ l b. rw (get_or-eq_default ls empty {n = l} (omega (arith, n, b, Inside.locals-few t (formed a) q h))) refl),
        all_clean (λ (j : ℕ). get_or ms j false) (apart_operand (procedure_of t) (index_of t).procedures f (is_guest t) guests_apart (walkable t a) q h (rw g refl) v)
            (λ j b. get_or-eq_default ms false {n = j} (omega (arith, b, (arrived t a q h (Inside.few t (formed a) q h) w).bounded))),
      )
