-- The faults of the locals pass and of the leaks pass are, at every instruction, the lowest number that a walk shows a cause for.
use Prim.Native.Nat.{ℕ, zero, suc, ◌<◌, ◌≤◌}
use mathlib.Core.Path.{◌≡◌, refl, sym, ap, ◌∙◌}
use mathlib.Core.Bool.{Bool, true, false, cond, not, ◌&&◌, ◌||◌, or-true, false≢true}
use mathlib.Core.List.{List, [], ◌∷◌, ◌++◌}
use mathlib.Core.Logic.{◌⊎◌, inl, inr}
use native.Mathlib.Decide.{ℕ_discrete}
use native.Mathlib.Omega.{arith}
use borrow.Author.Tests.{eqb-true, eq-eqb, not-true}
use lib.Dec.{eqb}
use lib.ListN.{length, length-append}
use Rattle.laws.proofs.Tests.{and_both}
use Rattle.table.specs.Format.{op_mv_loc, op_cp_loc, op_st_loc, op_borrow_loc, op_call, op_ret}
use Rattle.table.specs.Rows.{row_count}
use Rattle.table.specs.Index.{index_of}
use Rattle.declarations.specs.Program.{number, number_ref, procedure_in, code_of, local_count, local_kind, is_record}
use Rattle.operands.specs.Flow.{effect_in}
use Rattle.flow.specs.Places.{operand_marked}
use Rattle.locals.specs.Locals.{needs_full, leaves_empty, leaves_record, leaves_some, local_fault}
use Rattle.steps.specs.Steps.{step_of, step_at, marks_of}
use Rattle.sizes.proofs.Rows.{own, inside-few}
use Rattle.helpers.specs.Tables.{is_private, is_helper, marks_in}
use Rattle.leaks.specs.Leaks.{guarded_marks, in_trusted, some_marked, leak_in, leak_from, leak_fault}
use Rattle.judging.specs.Judging.{UpToOperands}
use Rattle.acceptance.specs.Refusals.{opcode, operand, ArrivesFull, HandsMarked, LocalCause, used-empty, stored-over, left_behind, LeakCause, given-away, returned}
use Rattle.acceptance.proofs.Shown.{needs_local, stores_local, call-takes, ret-takes, named-local, empty-shown, empty-found, full-shown, full-found, marked-shown, marked-found, takes-few}

-- MvLoc, CpLoc and BorrowLoc are the opcodes that need their local full
pub needs_three : (op : ℕ) → needs_full op ≡ true → (op ≡ op_mv_loc) ⊎ (op ≡ op_cp_loc) ⊎ (op ≡ op_borrow_loc)
unfolding needs_full
needs_three op e = go (eqb op op_mv_loc) (eqb op op_cp_loc) refl refl e
  where
    go : (a b : Bool) → eqb op op_mv_loc ≡ a → eqb op op_cp_loc ≡ b → (a || b || eqb op op_borrow_loc) ≡ true → (op ≡ op_mv_loc) ⊎ (op ≡ op_cp_loc) ⊎ (op ≡ op_borrow_loc)
    go true b p q e = inl (eqb-true op op_mv_loc p)
    go false true p q e = inr (inl (eqb-true op op_cp_loc q))
    go false false p q e = inr (inr (eqb-true op op_borrow_loc e))

three_need : (op : ℕ) → (op ≡ op_mv_loc) ⊎ (op ≡ op_cp_loc) ⊎ (op ≡ op_borrow_loc) → needs_full op ≡ true
unfolding needs_full
three_need op (inl e) = rw e
three_need op (inr (inl e)) = rw e
three_need op (inr (inr e)) = rw e

-- a marked writable reference among operands of some kinds
module _ (marked : ℕ → Bool) where
  marked-at : (ks : List ℕ) → some_marked marked ks ≡ true → (before after : List ℕ) × (ks ≡ before ++ (number_ref ∷ after)) × (marked (length after) ≡ true)
  unfolding some_marked
  marked-at [] e = absurd (false≢true e)
  marked-at (k ∷ ks) e = go (eqb k number_ref) (marked (length ks)) refl refl e (marked-at ks)
    where
      go : (a b : Bool) → eqb k number_ref ≡ a → marked (length ks) ≡ b → ((a && b) || some_marked marked ks) ≡ true
          → (some_marked marked ks ≡ true → (before after : List ℕ) × (ks ≡ before ++ (number_ref ∷ after)) × (marked (length after) ≡ true))
          → (before after : List ℕ) × (k ∷ ks ≡ before ++ (number_ref ∷ after)) × (marked (length after) ≡ true)
      go true true p q e later = ([], ks, ap (λ (x : ℕ). x ∷ ks) (eqb-true k number_ref p), q)
      go true false p q e later = let r = later e in (k ∷ r.0, r.1, ap (λ (l : List ℕ). k ∷ l) r.2, r.3)
      go false b p q e later = let r = later e in (k ∷ r.0, r.1, ap (λ (l : List ℕ). k ∷ l) r.2, r.3)

  at-marked : (before after : List ℕ) → marked (length after) ≡ true → some_marked marked (before ++ (number_ref ∷ after)) ≡ true
  unfolding some_marked
  at-marked [] after e = rw e
  at-marked (k ∷ before) after e = rw (at-marked before after e) (or-true (eqb k number_ref && marked (length (before ++ (number_ref ∷ after)))))

after-below : (ks before after : List ℕ) → ks ≡ before ++ (number_ref ∷ after) → length after < length ks
after-below ks before after e = rw (e, length-append) (omega arith)

-- the three tests of a leak
leaks_three : (op wanted : ℕ) (b c : Bool) → (eqb op wanted && not b && c) ≡ true → (op ≡ wanted) × (b ≡ false) × (c ≡ true)
leaks_three op wanted b c e =
    let x = and_both (eqb op wanted && not b) c e in
    let y = and_both (eqb op wanted) (not b) x.0 in
    (eqb-true op wanted y.0, not-true b y.1, x.1)

-- a test that holds of some number below n: `leaves_some` is such
module _ (test some : ℕ → Bool) (none : some 0 ≡ false) (more : (n : ℕ) → some (suc n) ≡ (some n || test n)) where
  some_at : (n : ℕ) → some n ≡ true → (l : ℕ) × (l < n) × (test l ≡ true)
  some_at zero e = absurd (false≢true (sym none ∙ e))
  some_at (suc n) e = go (test n) refl (λ s. some_at n s) (sym (more n) ∙ e)
    where
      go : (b : Bool) → test n ≡ b → (some n ≡ true → (l : ℕ) × (l < n) × (test l ≡ true)) → (some n || test n) ≡ true → (l : ℕ) × (l < suc n) × (test l ≡ true)
      go true q ih s = (n, omega arith, q)
      go false q ih s = let r = ih (old (some n) (rw q at s)) in let low = r.1 in (r.0, omega (arith, low), r.2)
        where
          old : (b : Bool) → (b || false) ≡ true → b ≡ true
          old true z = refl
          old false z = z

  at_some : (n l : ℕ) → l < n → test l ≡ true → some n ≡ true
  at_some zero l h e = absurd (omega arith)
  at_some (suc n) l h e = more n ∙ go (ℕ_discrete l n) (λ s. at_some n l s e)
    where
      go : Dec (l ≡ n) → (l < n → some n ≡ true) → (some n || test n) ≡ true
      go (yes s) ih = rw (← s, e, or-true)
      go (no s) ih = rw (ih (omega arith))

-- the numbers of the first test that holds
abbrev local_number : Bool → Bool → Bool → ℕ
local_number x y z = cond x 11 (cond y 12 (cond z 12 0))

abbrev leak_number : Bool → Bool → Bool → ℕ
leak_number trusted call ret = cond trusted (cond call 13 (cond ret 14 0)) 0

-- Instruction i of procedure q of a table that the passes before locals accept.
module _ (t : List ℕ) (a : UpToOperands t) (q i : ℕ) (there : q < (index_of t).procedures) (inside : i < row_count (code_of t (own t q))) where
  few : q < 128
  few = inside-few t q i inside

  -- a record's local that can be full, and some one that can
  record_shown : (l : ℕ) → leaves_record t (own t q) l i ≡ true → (is_record (local_kind t (own t q) l) ≡ true) × ArrivesFull t q i l
  unfolding leaves_record
  record_shown l e = let b = and_both (is_record (local_kind t (own t q) l)) _ e in (b.0, full-shown t a q there few l i b.1)

  record_found : (l : ℕ) → l < local_count (own t q) → is_record (local_kind t (own t q) l) ≡ true → ArrivesFull t q i l → leaves_record t (own t q) l i ≡ true
  unfolding leaves_record
  record_found l h r w = rw (r, full-found t a q there few l i h w)

  left-shown : leaves_some t (own t q) (local_count (own t q)) i ≡ true → (l : ℕ) × (l < local_count (own t q)) × (leaves_record t (own t q) l i ≡ true)
  unfolding leaves_some
  left-shown = some_at (λ (l : ℕ). leaves_record t (own t q) l i) (λ (n : ℕ). leaves_some t (own t q) n i) refl (λ n. refl) (local_count (own t q))

  left-found : (l : ℕ) → l < local_count (own t q) → leaves_record t (own t q) l i ≡ true → leaves_some t (own t q) (local_count (own t q)) i ≡ true
  unfolding leaves_some
  left-found = at_some (λ (l : ℕ). leaves_record t (own t q) l i) (λ (n : ℕ). leaves_some t (own t q) n i) refl (λ n. refl) (local_count (own t q))

  -- what has a fault of locals has a cause for it
  pub local-shown : (local_fault t (own t q) i ≡ 0 → ⊥) → LocalCause t q i (local_fault t (own t q) i)
  unfolding local_fault
  local-shown = go (needs_full (opcode t q i) && leaves_empty t (own t q) (operand t q i) i) (eqb (opcode t q i) op_st_loc && leaves_record t (own t q) (operand t q i) i)
      (eqb (opcode t q i) op_ret && leaves_some t (own t q) (local_count (own t q)) i) refl refl refl
    where
      go : (x y z : Bool) → (needs_full (opcode t q i) && leaves_empty t (own t q) (operand t q i) i) ≡ x → (eqb (opcode t q i) op_st_loc && leaves_record t (own t q) (operand t q i) i) ≡ y
          → (eqb (opcode t q i) op_ret && leaves_some t (own t q) (local_count (own t q)) i) ≡ z → (local_number x y z ≡ 0 → ⊥) → LocalCause t q i (local_number x y z)
      go true y z e f g n = let b = and_both (needs_full (opcode t q i)) _ e in used-empty (needs_three _ b.0) (empty-shown t a q there few (operand t q i) i b.1)
      go false true z e f g n = let b = and_both (eqb (opcode t q i) op_st_loc) _ f in let r = record_shown _ b.1 in stored-over (eqb-true _ _ b.0) r.0 r.1
      go false false true e f g n = let b = and_both (eqb (opcode t q i) op_ret) _ g in let s = left-shown b.1 in let r = record_shown s.0 s.2 in left_behind (eqb-true _ _ b.0) s.0 s.1 r.0 r.1
      go false false false e f g n = absurd (n refl)

  -- what has a cause has a fault, and none is higher
  pub local-found : (number : ℕ) → LocalCause t q i number → (local_fault t (own t q) i ≡ 0 → ⊥) × (local_fault t (own t q) i ≤ number)
  unfolding local_fault
  local-found number (used-empty u w) =
      let n = three_need _ u in
      let e = empty-found t a q there few (operand t q i) i (named-local t a q there few i (needs_local _ n)) w in
      rw (n, e) (λ z. omega arith, omega arith)
  local-found number (stored-over o r w) =
      let e = record_found (operand t q i) (named-local t a q there few i (stores_local _ o)) r w in
      rw (eq-eqb _ op_st_loc o, e) (go (needs_full (opcode t q i) && leaves_empty t (own t q) (operand t q i) i))
    where
      go : (x : Bool) → (local_number x true false ≡ 0 → ⊥) × (local_number x true false ≤ 12)
      go true = (λ z. omega arith, omega arith)
      go false = (λ z. omega arith, omega arith)
  local-found number (left_behind o l h r w) =
      let e = left-found l h (record_found l h r w) in
      rw (eq-eqb _ op_ret o, e) (go (needs_full (opcode t q i) && leaves_empty t (own t q) (operand t q i) i) (eqb (opcode t q i) op_st_loc && leaves_record t (own t q) (operand t q i) i))
    where
      go : (x y : Bool) → (local_number x y true ≡ 0 → ⊥) × (local_number x y true ≤ 12)
      go true y = (λ z. omega arith, omega arith)
      go false true = (λ z. omega arith, omega arith)
      go false false = (λ z. omega arith, omega arith)

  -- the kinds that the instruction takes, the marks, and whether it calls a helper
  abbrev takes : List ℕ
  takes = (effect_in t (index_of t) (own t q) number i).takes

  abbrev marked : ℕ → Bool
  marked = operand_marked (marks_of t (index_of t) (guarded_marks t) q (own t q)) i

  abbrev helper : Bool
  helper = is_helper t (own t q) (procedure_in (index_of t) (operand t q i))

  -- some writable reference among those taken that can be marked
  taken-shown : some_marked marked takes ≡ true → HandsMarked t q i takes
  unfolding step_at step_of effect_in
  taken-shown e =
      let r = marked-at marked takes e in
      let low = after-below takes r.0 r.1 r.2 in
      (r.0, r.1, r.2, marked-shown t a q there few i (length r.1) (omega (arith, low, takes-few t a q there few i inside)) r.3)

  taken-found : HandsMarked t q i takes → some_marked marked takes ≡ true
  taken-found (before, after, e, w) = rw e (at-marked marked before after (marked-found t a q there few i (length after) w))

  -- the fault by its tests
  leak_is : leak_fault t (index_of t) (marks_in t) q (own t q) i
      ≡ leak_number (in_trusted t (index_of t) (own t q)) (eqb (opcode t q i) op_call && not helper && some_marked marked takes)
      (eqb (opcode t q i) op_ret && not (is_private t (own t q)) && some_marked marked takes)
  unfolding leak_fault leak_from leak_in
  leak_is = refl

  -- what has a fault of leaks has a cause for it
  pub leak_shown : (leak_fault t (index_of t) (marks_in t) q (own t q) i ≡ 0 → ⊥) → LeakCause t q i (leak_fault t (index_of t) (marks_in t) q (own t q) i)
  leak_shown = rw leak_is (go (in_trusted t (index_of t) (own t q)) (eqb (opcode t q i) op_call && not helper && some_marked marked takes)
      (eqb (opcode t q i) op_ret && not (is_private t (own t q)) && some_marked marked takes) refl refl refl)
    where
      go : (u x y : Bool) → in_trusted t (index_of t) (own t q) ≡ u → (eqb (opcode t q i) op_call && not helper && some_marked marked takes) ≡ x
          → (eqb (opcode t q i) op_ret && not (is_private t (own t q)) && some_marked marked takes) ≡ y
          → (leak_number u x y ≡ 0 → ⊥) → LeakCause t q i (leak_number u x y)
      go false x y e f g n = absurd (n refl)
      go true true y e f g n =
          let b = leaks_three (opcode t q i) op_call helper _ f in
          given-away e b.0 b.1 (rw (call-takes t q i b.0) at (taken-shown b.2))
      go true false true e f g n =
          let b = leaks_three (opcode t q i) op_ret (is_private t (own t q)) _ g in
          returned e b.0 b.1 (rw (ret-takes t q i b.0) at (taken-shown b.2))
      go true false false e f g n = absurd (n refl)

  -- what has a cause has a fault, and none is higher
  pub leak_found : (number : ℕ) → LeakCause t q i number → (leak_fault t (index_of t) (marks_in t) q (own t q) i ≡ 0 → ⊥) × (leak_fault t (index_of t) (marks_in t) q (own t q) i ≤ number)
  leak_found number (given-away e c h w) = rw (leak_is, e, eq-eqb _ op_call c, h, taken-found (rw (call-takes t q i c) w)) (λ z. omega arith, omega arith)
  leak_found number (returned e c h w) = rw (leak_is, e, eq-eqb _ op_ret c, h, taken-found (rw (ret-takes t q i c) w)) (go (eqb (opcode t q i) op_call && not helper && true))
    where
      go : (x : Bool) → (leak_number true x true ≡ 0 → ⊥) × (leak_number true x true ≤ 14)
      go true = (λ z. omega arith, omega arith)
      go false = (λ z. omega arith, omega arith)
