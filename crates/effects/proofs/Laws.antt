-- Laws of the kinds of the operands present: what the code's stack stands for, rows of kinds, and the effects by opcode.
use Prim.Native.Nat.{ℕ, zero, suc, ◌+◌, ◌-◌, ◌%◌, ◌<◌, ◌≤◌, min}
use mathlib.Core.Path.{◌≡◌, refl, ap, sym, ◌∙◌}
use mathlib.Core.Bool.{Bool, true, false, cond, not, ◌&&◌, ◌||◌}
use Rattle.std.specs.Option.{is_some, option_or}
use Rattle.std.specs.Prelude.{Option, Some, None}
use Rattle.std.proofs.Math.Nat.{pos_of_ne-zero}
use mathlib.Core.List.{List, [], ◌∷◌}
use native.Mathlib.Decide.{dec_lt, ℕ_discrete}
use native.Mathlib.Omega.{arith}
use native.Mathlib.Numerals.{add-one}
use borrow.Author.Tests.{eq-eqb, ne_eqb, le-ltb, leb-true}
use lib.Dec.{eqb, ltb}
use lib.ListN.{length, get_or, set, get_or-eq_default}
use lib.Seq.{get_or-set_same, get_or-set_other}
use Rattle.laws.specs.Lists.{none}
use Rattle.laws.proofs.Tests.{and_both}
use Rattle.table.specs.declared.Row.{Row}
use Rattle.table.specs.declared.index.TypeEntry.{TypeEntry}
use Rattle.table.specs.declared.index.ProcedureEntry.{ProcedureEntry}
use Rattle.table.specs.declared.refusals.Reason.{Reason}
use Rattle.table.specs.Verdicts.{number_of_reason, fault_of}
use Rattle.table.proofs.Reasons.{reason-faulty}
use Rattle.table.specs.Format.{max_operands, past_opcodes}
use Rattle.table.specs.Rows.{row_at}
use Rattle.declarations.specs.Program.{row_kind, kinds_from, kinds_of, is_reference, is_writable}
use Rattle.effects.specs.Kinds.{Kinds, good, bad, kinds_or, fault_by, failed, taken, pushed, top_of, fault_after, top_first}
use Rattle.effects.specs.Effects.{Effect, effects, effect_of, no_effect, applied, kinds_after}

suc-eqb : (n : ℕ) → eqb (suc n) 0 ≡ false
suc-eqb n = ne_eqb (suc n) 0 (λ e. omega arith)

-- a number that is two more than another, or cannot be
pub two-less : (x y : ℕ) → 2 ≤ x → eqb x (y + 2) ≡ eqb (x - 2) y
two-less x y h = go (ℕ_discrete (x - 2) y)
  where
    go : Dec (x - 2 ≡ y) → eqb x (y + 2) ≡ eqb (x - 2) y
    go (yes e) = eq-eqb x (y + 2) (omega arith) ∙ sym (eq-eqb (x - 2) y e)
    go (no e) = ne_eqb x (y + 2) (λ q. e (omega arith)) ∙ sym (ne_eqb (x - 2) y e)

pub two_more : (x y : ℕ) → x < 2 → eqb x (y + 2) ≡ false
two_more x y h = ne_eqb x (y + 2) (λ e. omega arith)

pub ruleset two_off = (two-less, two_more)

-- a kind that can be written through leaves room for the read-only one
pub not_last : (k : ℕ) → is_writable k ≡ true → k % 8 ≤ 3
unfolding is_writable
not_last k e = leb-true (k % 8) 3 (and_both (is_reference k) _ e).1

suc_pred : (n : ℕ) → suc n - 1 ≡ n
suc_pred n = omega arith

length-top : (ks : List ℕ) (h : ℕ) → length (top_first ks h) ≡ h
unfolding top_first
length-top ks zero = refl
length-top ks (suc h) = ap suc (length-top ks h)

-- what is set above the top changes nothing
top_set : (ks : List ℕ) (h j v : ℕ) → h ≤ j → top_first (set ks j v) h ≡ top_first ks h
unfolding top_first
top_set ks zero j v l = refl
top_set ks (suc h) j v l = rw (get_or-set_other ks j h v 0 (λ e. omega arith), top_set ks h j v (omega arith))

-- what lent kinds and a stack of height h with fault f stand for, 0 for none
module _ (ks : List ℕ) where
  pub fail_is : (h f g : ℕ) → failed g (kinds_or f (top_first ks h)) ≡ cond (eqb f 0) (kinds_or g (top_first ks h)) (kinds_or f (top_first ks h))
  unfolding failed
  fail_is h zero g = refl
  fail_is h (suc f) g = rw suc-eqb

  pub top-is : (h f : ℕ) → top_of (kinds_or f (top_first ks h)) ≡ cond (eqb f 0) (cond (eqb h 0) 0 (get_or ks (h - 1) 0)) 0
  unfolding top_of top_first
  top-is zero zero = refl
  top-is (suc h) zero = rw (suc-eqb, suc_pred)
  top-is h (suc f) = rw suc-eqb

  pub take-is : (h f k : ℕ) → taken k (kinds_or f (top_first ks h)) ≡ cond (eqb f 0) (cond (eqb h 0) (bad 7) (cond (eqb (get_or ks (h - 1) 0) k) (kinds_or f (top_first ks (h - 1))) (bad 7))) (kinds_or f (top_first ks h))
  unfolding taken top_first
  take-is zero zero k = refl
  take-is (suc h) zero k = rw (suc-eqb, suc_pred)
  take-is h (suc f) k = rw suc-eqb

  pub push-is : length ks ≡ max_operands → (h f k : ℕ) → pushed k (kinds_or f (top_first ks h)) ≡ cond (eqb f 0) (cond (ltb h max_operands) (kinds_or f (top_first (set ks h k) (h + 1))) (bad 8)) (kinds_or f (top_first ks h))
  unfolding pushed top_first
  push-is m h zero k = rw (length-top ks h) (go (dec_lt h max_operands))
    where
      go : Dec (h < max_operands) → cond (ltb h max_operands) (good (k ∷ top_first ks h)) (bad 8) ≡ cond (ltb h max_operands) (good (top_first (set ks h k) (h + 1))) (bad 8)
      go (yes l) = rw (add-one, get_or-set_same ks h k 0 (omega arith), top_set ks h h k (omega arith))
      go (no l) = rw (le-ltb h max_operands (omega arith))
  push-is m h (suc f) k = rw suc-eqb

  pub fault_is : (h f : ℕ) (last other : Bool) → fault_after (kinds_or f (top_first ks h)) last other ≡ cond (eqb f 0) (cond (last && not (eqb h 0)) 9 (cond other 10 0)) f
  unfolding fault_after top_first none
  fault_is zero zero last other = refl
  fault_is (suc h) zero last other = rw suc-eqb
  fault_is h (suc f) last other = rw suc-eqb

-- the same by the tests that the code makes, for a fault that may be there
module _ {F : Type 0} (number : F → ℕ) (shows : (fault : F) → 0 < number fault) where
  -- a fault's number is not 0, so that it shows
  pub bad_for : (ks : List ℕ) (fault : F) → kinds_or (number fault) ks ≡ bad (number fault)
  bad_for ks fault = go (number fault) (shows fault)
    where
      go : (f : ℕ) → 0 < f → kinds_or f ks ≡ bad f
      go zero h = grind arith
      go (suc f) h = refl

  pub fail_tests : (ks : List ℕ) (h : ℕ) (f : Option F) (g : F) → failed (number g) (kinds_or (fault_by number f) (top_first ks h)) ≡ kinds_or (fault_by number (option_or f (Some g))) (top_first ks h)
  unfolding failed
  fail_tests ks h None g = fail_is ks h 0 (number g)
  fail_tests ks h (Some fault) g = rw bad_for

  pub top-tests : (ks : List ℕ) (h : ℕ) (f : Option F) → top_of (kinds_or (fault_by number f) (top_first ks h)) ≡ cond (is_some f) 0 (cond (eqb h 0) 0 (get_or ks (h - 1) 0))
  unfolding top_of
  top-tests ks h None = top-is ks h 0
  top-tests ks h (Some fault) = rw bad_for

  pub take-tests : (ks : List ℕ) (h : ℕ) (f : Option F) (k : ℕ) → taken k (kinds_or (fault_by number f) (top_first ks h))
      ≡ cond (is_some f) (kinds_or (fault_by number f) (top_first ks h)) (cond (eqb h 0 || not (eqb (get_or ks (h - 1) 0) k)) (failed 7 (kinds_or (fault_by number f) (top_first ks h))) (kinds_or (fault_by number f) (top_first ks (h - 1))))
  unfolding taken failed
  take-tests ks h None k = take-is ks h 0 k ∙ go (eqb h 0) (eqb (get_or ks (h - 1) 0) k)
    where
      go : (a b : Bool) → cond a (bad 7) (cond b (good (top_first ks (h - 1))) (bad 7)) ≡ cond (a || not b) (bad 7) (good (top_first ks (h - 1)))
      go true b = refl
      go false true = refl
      go false false = refl
  take-tests ks h (Some fault) k = rw bad_for

  pub push-tests : (ks : List ℕ) → length ks ≡ max_operands → (h : ℕ) (f : Option F) (k : ℕ) → pushed k (kinds_or (fault_by number f) (top_first ks h))
      ≡ cond (is_some f) (kinds_or (fault_by number f) (top_first ks h)) (cond (ltb h max_operands) (kinds_or (fault_by number f) (top_first (set ks h k) (h + 1))) (failed 8 (kinds_or (fault_by number f) (top_first ks h))))
  unfolding pushed failed
  push-tests ks m h None k = push-is ks m h 0 k
  push-tests ks m h (Some fault) k = rw bad_for

  pub fault_tests : (ks : List ℕ) (h : ℕ) (f : Option F) (last other : Bool) → fault_after (kinds_or (fault_by number f) (top_first ks h)) last other ≡ cond (is_some f) (fault_by number f) (cond (last && not (eqb h 0)) 9 (cond other 10 0))
  unfolding fault_after
  fault_tests ks h None last other = fault_is ks h 0 last other
  fault_tests ks h (Some fault) last other = rw bad_for

-- and for a reason, by `fault_of`: its number is not 0, so that it shows
pub reason_shows : (r : Reason) → 0 < number_of_reason r
reason_shows r = pos_of_ne-zero (reason-faulty r)

pub by_reason : (f : Option Reason) → fault_by number_of_reason f ≡ fault_of f
by_reason f = refl

module _ (ks : List ℕ) where
  pub fail_reason : (h : ℕ) (f : Option Reason) (r : Reason) → failed (number_of_reason r) (kinds_or (fault_of f) (top_first ks h)) ≡ kinds_or (fault_of (option_or f (Some r))) (top_first ks h)
  fail_reason = fail_tests number_of_reason reason_shows ks

  pub top-reason : (h : ℕ) (f : Option Reason) → top_of (kinds_or (fault_of f) (top_first ks h)) ≡ cond (is_some f) 0 (cond (eqb h 0) 0 (get_or ks (h - 1) 0))
  top-reason = top-tests number_of_reason reason_shows ks

  pub take-reason : (h : ℕ) (f : Option Reason) (k : ℕ) → taken k (kinds_or (fault_of f) (top_first ks h))
      ≡ cond (is_some f) (kinds_or (fault_of f) (top_first ks h)) (cond (eqb h 0 || not (eqb (get_or ks (h - 1) 0) k)) (failed 7 (kinds_or (fault_of f) (top_first ks h))) (kinds_or (fault_of f) (top_first ks (h - 1))))
  take-reason = take-tests number_of_reason reason_shows ks

  pub push-reason : length ks ≡ max_operands → (h : ℕ) (f : Option Reason) (k : ℕ) → pushed k (kinds_or (fault_of f) (top_first ks h))
      ≡ cond (is_some f) (kinds_or (fault_of f) (top_first ks h)) (cond (ltb h max_operands) (kinds_or (fault_of f) (top_first (set ks h k) (h + 1))) (failed 8 (kinds_or (fault_of f) (top_first ks h))))
  push-reason = push-tests number_of_reason reason_shows ks

  pub fault_reason : (h : ℕ) (f : Option Reason) (last other : Bool) → fault_after (kinds_or (fault_of f) (top_first ks h)) last other ≡ cond (is_some f) (fault_of f) (cond (last && not (eqb h 0)) 9 (cond other 10 0))
  fault_reason = fault_tests number_of_reason reason_shows ks

pub ruleset views = (fail_tests, top-tests, take-tests, push-tests, fault_tests, fail_reason, top-reason, take-reason, push-reason, fault_reason, by_reason)

-- the kinds that rows declare
module _ (t : List ℕ) (from to : ℕ) where
  pub kinds-none : to ≤ from → kinds_of t from to ≡ []
  unfolding kinds_of kinds_from
  kinds-none h = let e : to - from ≡ 0 = omega arith in rw e

  pub kinds-first : from < to → kinds_of t from to ≡ row_kind (row_at t from) ∷ kinds_of t (from + 1) to
  unfolding kinds_of kinds_from
  kinds-first h = let e : to - from ≡ suc (to - (from + 1)) = omega arith in rw e

pub kinds-before : (t : List ℕ) (i to : ℕ) → 0 < i → i ≤ to → kinds_of t (i - 1) to ≡ row_kind (row_at t (i - 1)) ∷ kinds_of t i to
kinds-before t i to h k = let e : i - 1 + 1 ≡ i = omega arith in rw e at (kinds-first t (i - 1) to (omega arith))

-- a walk from `to` down that stops at `from`, or at once, has passed all of them
pub kinds-whole : (t : List ℕ) (from to i : ℕ) → i ≤ from → i ≤ to → min from to ≤ i → kinds_of t i to ≡ kinds_of t from to
kinds-whole t from to i a b d = go (dec_lt from to)
  where
    go : Dec (from < to) → kinds_of t i to ≡ kinds_of t from to
    go (yes h) = let e : i ≡ from = omega arith in rw e
    go (no h) = kinds-none t i to (omega arith) ∙ sym (kinds-none t from to (omega arith))

pub ruleset rows = (kinds-none, kinds-first, kinds-before, kinds-whole)

-- what the row's instruction does, by its opcode
module _ (t : List ℕ) (own : ProcedureEntry) (named : TypeEntry) (callee : ProcedureEntry) (row : Row) (s : Kinds) where
  pub listed : (n : ℕ) → row.a ≡ n → applied (get_or (effects t own named callee row.b (top_of s)) n no_effect) s ≡ kinds_after t own named callee row s
  unfolding kinds_after effect_of
  listed n e = ap (λ (a : ℕ). applied (get_or (effects t own named callee row.b (top_of s)) a no_effect) s) (sym e)

  pub unlisted : past_opcodes ≤ row.a → failed 7 s ≡ kinds_after t own named callee row s
  unfolding kinds_after effect_of applied effects
  unlisted h = ap (λ (e : Effect). applied e s) (sym (get_or-eq_default (effects t own named callee row.b (top_of s)) no_effect h))
