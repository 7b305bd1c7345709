-- An instruction stops exactly where it has a cause to.
use Prim.Native.Nat.{ℕ, suc, ◌+◌, ◌-◌, ◌/◌, ◌≤◌}
use mathlib.Core.Path.{◌≡◌, refl, ap, sym, ◌∙◌}
use mathlib.Core.Bool.{Bool, true, false, cond, ◌||◌}
use mathlib.Core.List.{List, [], ◌∷◌, ◌++◌}
use mathlib.Core.Logic.{◌⊎◌, inl, inr, ⊎_elim, ◌≢◌}
use mathlib.Core.Option.{Option, none, some}
use native.Mathlib.Omega.{arith}
use borrow.Author.Tests.{eqb-false, le-ltb}
use lib.Dec.{eqb}
use lib.ListN.{length, get_or}
use Rattle.laws.proofs.Tests.{neither}
use Rattle.table.specs.declared.Row.{Row}
use Rattle.table.specs.declared.index.Index.{Index}
use Rattle.table.specs.Format.{op_read_ref, op_write_ref, op_borrow_fld, op_pack, op_move_to, op_move_from, op_borrow_global, op_call, op_ret, op_op, op_freeze}
use Rattle.table.specs.Rows.{row_at}
use Rattle.declarations.specs.Program.{number, number_ref, record_of, type_in, procedure_in, local_count, local_kind}
use Rattle.effects.specs.Effects.{Effect, effects, no_effect}
use Rattle.arithmetic.specs.Arithmetic.{Calculated, Value as Gives, TooLarge, BelowZero, Unknown, calculation}
use Rattle.arithmetic.proofs.Range as Range
use Rattle.semantics.specs.Limits.{max_frames, max_records, max_entries, budget_spent, too_large, key_taken, no_such_key, stale_reference, too_many_frames, too_many_records, too_many_entries, below_zero}
use Rattle.semantics.specs.Machine.{Ref, Value, num, refer, value_kind, Cell, Entry, Frame, frame, State, state, Outcome, next, stopped, stuck, live_count, find_key, stale, target}
use Rattle.semantics.specs.Step.{missing, took, also_taken, taken, top_kind, under_key, calculated, actions, instruction, effect_at, act, step}
use Rattle.semantics.specs.History.{Event, moment, row_up}
use Rattle.semantics.specs.Stops.{Stale, OpOf, Overflows, Overdraws, Cause, sum_too_large, below-zero, key-taken, no-such-key, stale-there, stale-written, frames-full, records-full, entries-full}
use Rattle.semantics.specs.Claim.{Rising, Takes, SafeState, StopsAt, goes, returns_last, stops, Safe, safe}
use Rattle.semantics.specs.Chain.{Moments, spent, steps, done}
use Rattle.semantics.proofs.Changes.{clash}
use Rattle.semantics.proofs.Sounds.{none_found, find_none}
use Rattle.semantics.proofs.Instructions.{effect-at}
use Rattle.semantics.proofs.Running.{target-same}
use Rattle.semantics.proofs.Stale.{stale_leads}
use Rattle.semantics.proofs.Causes.{stop_caused}

-- what is taken off the top, where it is one operand, or two
one-taken : (k : ℕ) (v : Value) (under vs rest : List Value) → taken (k ∷ []) (v ∷ under) ≡ took vs rest → (vs ≡ v ∷ []) × (rest ≡ under)
one-taken k v under vs rest = go (eqb (value_kind v) k)
  where
    go : (c : Bool) → cond c (took (v ∷ []) under) missing ≡ took vs rest → (vs ≡ v ∷ []) × (rest ≡ under)
    go true e = (cc, cc)
    go false e = absurd (clash (cc))

two-taken : (k l : ℕ) (v w : Value) (under vs rest : List Value) → taken (k ∷ l ∷ []) (w ∷ v ∷ under) ≡ took vs rest → (vs ≡ v ∷ w ∷ []) × (rest ≡ under)
two-taken k l v w under vs rest = go (eqb (value_kind w) l)
  where
    second : (d : Bool) → cond d (took (v ∷ w ∷ []) under) missing ≡ took vs rest → (vs ≡ v ∷ w ∷ []) × (rest ≡ under)
    second true e = (cc, cc)
    second false e = absurd (clash (cc))

    go : (c : Bool) → also_taken k (cond c (took (w ∷ []) (v ∷ under)) missing) ≡ took vs rest → (vs ≡ v ∷ w ∷ []) × (rest ≡ under)
    go true e = second (eqb (value_kind v) k) e
    go false e = absurd (clash (cc))

-- other opcodes than Ret and Freeze
apart : (op k : ℕ) → (eqb k op_ret || eqb k op_freeze) ≡ false → op ≡ k → (op ≢ op_ret) × (op ≢ op_freeze)
apart op k z e = let n = neither (eqb k op_ret) (eqb k op_freeze) z in (λ r. eqb-false k op_ret n.0 (sym e ∙ r), λ f. eqb-false k op_freeze n.1 (sym e ∙ f))

-- The opcodes that can stop are other ones than Ret and Freeze
module _ {r : Row} {ops : List Value} {fs : List Frame} {rs : List Cell} {st : List Entry} where
  pub others : {k : ℕ} → Cause r ops fs rs st k → (r.a ≢ op_ret) × (r.a ≢ op_freeze)
  others (sum_too_large o) = apart _ op_op refl o.2.0
  others (below-zero o) = apart _ op_op refl o.2.0
  others (key-taken e q m) = apart _ op_move_to refl e
  others (no-such-key e q m) = ⊎_elim (λ z. apart _ op_move_from refl z) (λ z. apart _ op_borrow_global refl z) e
  others (stale-there e q s) = ⊎_elim (λ z. apart _ op_read_ref refl z) (λ z. apart _ op_borrow_fld refl z) e
  others (stale-written e q s) = apart _ op_write_ref refl e
  others (frames-full e l) = apart _ op_call refl e
  others (records-full e l) = apart _ op_pack refl e
  others (entries-full e q m l) = apart _ op_move_to refl e

  -- of an Op a sum that is too large, or a difference below zero; else of another instruction, with another number
  by_op : {k : ℕ} → Cause r ops fs rs st k
      → ((k ≡ too_large) × Overflows r ops) ⊎ (((k ≡ below_zero) × Overdraws r ops) ⊎ ((r.a ≢ op_op) × (k ≢ too_large) × (k ≢ below_zero)))
  by_op (sum_too_large o) = inl (refl, o)
  by_op (below-zero o) = inr (inl (refl, o))
  by_op (key-taken e q m) = inr (inr ((λ z. omega arith), (λ z. omega arith), λ z. omega arith))
  by_op (no-such-key e q m) = inr (inr ((λ z. ⊎_elim (λ d. omega arith) (λ d. omega arith) e), (λ z. omega arith), λ z. omega arith))
  by_op (stale-there e q s) = inr (inr ((λ z. ⊎_elim (λ d. omega arith) (λ d. omega arith) e), (λ z. omega arith), λ z. omega arith))
  by_op (stale-written e q s) = inr (inr ((λ z. omega arith), (λ z. omega arith), λ z. omega arith))
  by_op (frames-full e l) = inr (inr ((λ z. omega arith), (λ z. omega arith), λ z. omega arith))
  by_op (records-full e l) = inr (inr ((λ z. omega arith), (λ z. omega arith), λ z. omega arith))
  by_op (entries-full e q m l) = inr (inr ((λ z. omega arith), (λ z. omega arith), λ z. omega arith))

-- what a frame that is at an Op comes to, with `under` left under the two numbers
abbrev pub calculation_comes : (id p i : ℕ) → List (Option Value) → List Frame → List Cell → List Entry → ℕ → List Value → Calculated → Outcome
calculation_comes id p i ls fs rs st n under (Gives z) = next (state (frame id p (i + 1) (num z ∷ under) ls ∷ fs) rs st n)
calculation_comes id p i ls fs rs st n under TooLarge = stopped too_large
calculation_comes id p i ls fs rs st n under BelowZero = stopped below_zero
calculation_comes id p i ls fs rs st n under Unknown = stuck

-- Frame id of procedure p is at instruction i, and has its operands
module _ (t : List ℕ) (ix : Index) (id p i : ℕ) (ops : List Value) (ls : List (Option Value)) (fs : List Frame) (rs : List Cell) (st : List Entry) (n : ℕ) (fit : (effect_at t ix p i ops).fit ≡ true) (rising : Rising n (frame id p i ops ls ∷ fs)) where
  abbrev r : Row
  r = instruction t ix p i

  abbrev here_now : State
  here_now = state (frame id p i ops ls ∷ fs) rs st n

  -- the values vs are taken, and `rest` is left
  module _ (vs rest : List Value) (takes : Takes t ix p i ops vs rest) where
    abbrev b : ℕ
    b = r.b

    abbrev acts : ℕ → List Value → Outcome
    acts a us = get_or (actions b r.d (local_kind t (procedure_in ix p) b) (local_count (procedure_in ix b) - length us) us id p i rest ls fs rs st n) a stuck

    stepped : (a : ℕ) → r.a ≡ a → step t ix here_now ≡ acts a vs
    unfolding act
    stepped a e = rw (fit, takes, e) refl

    abbrev effect : ℕ → Effect
    effect a = get_or (effects t (procedure_in ix p) (type_in ix (cond (eqb a op_borrow_fld) (b / 8) b)) (procedure_in ix b) b (top_kind ops)) a no_effect

    -- the operands that opcode a takes
    taken_by : (a : ℕ) → r.a ≡ a → taken (effect a).takes ops ≡ took vs rest
    unfolding instruction effect_at
    taken_by a e = sym (ap (λ (x : Effect). taken x.takes ops) (effect-at t ix (procedure_in ix p) i a (top_kind ops) e)) ∙ takes

    one_by : (a k : ℕ) {v : Value} {under : List Value} → r.a ≡ a → (effect a).takes ≡ k ∷ [] → ops ≡ v ∷ under → vs ≡ v ∷ []
    one_by a k {v} {under} e z q = (one-taken k v under vs rest (sym (ap (λ (ks : List ℕ). taken ks ops) z ∙ ap (taken (k ∷ [])) q) ∙ taken_by a e)).0

    two_by : (a k l : ℕ) {v w : Value} {under : List Value} → r.a ≡ a → (effect a).takes ≡ k ∷ l ∷ [] → ops ≡ w ∷ v ∷ under → (vs ≡ v ∷ w ∷ []) × (rest ≡ under)
    two_by a k l {v} {w} {under} e z q = two-taken k l v w under vs rest (sym (ap (λ (ks : List ℕ). taken ks ops) z ∙ ap (taken (k ∷ l ∷ [])) q) ∙ taken_by a e)

    -- Op pushes what its operation gives, or stops
    pub op_comes : {x y : ℕ} {under : List Value} → r.a ≡ op_op → ops ≡ num y ∷ num x ∷ under → (c : Calculated) → calculation b x y ≡ c → step t ix here_now ≡ calculation_comes id p i ls fs rs st n under c
    unfolding actions effects
    op_comes {x} {y} {under} e q c d =
        let z = two_by op_op number number e refl q in
        stepped op_op e ∙ rw (z.0, z.1, d) (by c)
      where
        by : (c : Calculated) → calculated b r.d (local_kind t (procedure_in ix p) b) (local_count (procedure_in ix b) - 2) (num x ∷ num y ∷ []) id p i under ls fs rs st n c ≡ calculation_comes id p i ls fs rs st n under c
        by (Gives z) = refl
        by TooLarge = refl
        by BelowZero = refl
        by Unknown = refl

    lead_stale : (w : Bool) (v : Ref) → Stale (frame id p i ops ls ∷ fs) rs v → target (frame id p i rest ls ∷ fs) rs (refer w v) ≡ stale
    lead_stale w v s = target-same id p i i rest ops ls fs rs (refer w v) ∙ stale_leads (frame id p i ops ls ∷ fs) rs n rising v s

    pub stops_for : {k : ℕ} → Cause r ops (frame id p i ops ls ∷ fs) rs st k → step t ix here_now ≡ stopped k
    unfolding actions effects
    stops_for (sum_too_large (x, y, o, l)) = op_comes o.0 o.2.1 TooLarge ((Range.too_large b x y).1 (o.1, l))
    stops_for (below-zero (x, y, o, l)) = op_comes o.0 o.2.1 BelowZero ((Range.below-zero b x y).1 (o.1, omega (arith, l)))
    stops_for (key-taken {a} {c} {y} {id = o} {under} e q m) =
        stepped op_move_to e ∙ rw (two_by op_move_to (record_of b) number e refl q).0 (there (find_key st b a) refl _)
      where
        there : (x : Option ℕ) → find_key st b a ≡ x → (f : Outcome) → under_key x f (λ (r' : ℕ). stopped key_taken) ≡ stopped key_taken
        there none z f = absurd (none_found st b a z o m)
        there (some r') z f = refl
    stops_for (no-such-key {a} {under} (inl e) q m) = stepped op_move_from e ∙ rw (one_by op_move_from number e refl q, find_none st b a m) refl
    stops_for (no-such-key {a} {under} (inr e) q m) = stepped op_borrow_global e ∙ rw (one_by op_borrow_global number e refl q, find_none st b a m) refl
    stops_for (stale-there {w} {v} {under} (inl e) q s) = stepped op_read_ref e ∙ rw (one_by op_read_ref (top_kind ops) e refl q, lead_stale w v s) refl
    stops_for (stale-there {w} {v} {under} (inr e) q s) = stepped op_borrow_fld e ∙ rw (one_by op_borrow_fld (top_kind ops) e refl q, lead_stale w v s) refl
    stops_for (stale-written {x} {w} {v} {under} e q s) =
        stepped op_write_ref e ∙ rw ((two_by op_write_ref number number_ref e refl q).0, lead_stale w v s) refl
    stops_for (frames-full e l) = stepped op_call e ∙ rw (le-ltb (length fs + 1) max_frames (omega (arith, l))) refl
    stops_for (records-full e l) = stepped op_pack e ∙ rw (le-ltb (live_count rs) max_records l) refl
    stops_for (entries-full {a} {c} {y} {under} e q m l) =
        stepped op_move_to e
        ∙ rw ((two_by op_move_to (record_of b) number e refl q).0, find_none st b a m, le-ltb (length st) max_entries l) refl

-- In a safe moment
module _ (t : List ℕ) (ix : Index) (row id p i : ℕ) (ops : List Value) (ls : List (Option Value)) (fs : List Frame) (rs : List Cell) (st : List Entry) (n : ℕ) where
  abbrev here-is : State
  here-is = state (frame id p i ops ls ∷ fs) rs st n

  abbrev SafeHere : Type 0
  SafeHere = SafeState t ix row id p i ops ls fs rs st n

  abbrev Hinders : ℕ → Type 0
  Hinders k = Cause (row_at t row) ops (frame id p i ops ls ∷ fs) rs st k

  -- a cause to stop is what `step` stops for
  pub cause-stops : {k : ℕ} → SafeHere → Hinders k → step t ix here-is ≡ stopped k
  cause-stops s c = let r = s.ready in stops_for t ix id p i ops ls fs rs st n r.fit s.rising r.operands.0 r.operands.1 r.operands.2 (rw (← r.found) at c)

  -- and what it stops for is a cause
  pub stop_cause : {k : ℕ} → SafeHere → step t ix here-is ≡ stopped k → Hinders k
  stop_cause {k} s e = rw s.ready.found at (stop_caused t ix id p i ops ls fs rs st n k e)

  -- an instruction has one cause at most
  pub one-cause : {k k' : ℕ} → SafeHere → Hinders k → Hinders k' → k ≡ k'
  one-cause r c d = let z = sym (cause-stops r c) ∙ cause-stops r d in cc (z)

  -- where there is one, the call stops for it, or as its budget is spent
  pub stops_so : {k : ℕ} {o : Outcome} → Safe t ix (moment here-is row o) → Hinders k → (o ≡ stopped budget_spent) ⊎ (o ≡ stopped k)
  stops_so (safe s (goes u a b c d g)) q = absurd (u _ q)
  stops_so (safe s (returns_last e a b)) q = absurd ((others q).0 e)
  stops_so (safe s (stops (inl e))) q = inl (ap stopped e)
  stops_so (safe s (stops (inr c))) q = inr (ap stopped (one-cause s c q))

  -- 39 comes for a difference below zero and nothing else, 32 for a sum of more than 64 bits and nothing else; another Op stops for the budget alone
  pub overdraws : {k : ℕ} → StopsAt t row here-is k → k ≡ below_zero → Overdraws (row_at t row) ops
  overdraws (inl z) e = absurd (omega (arith, z, e))
  overdraws (inr c) e = ⊎_elim (λ o. absurd (omega (arith, o.0, e))) (λ z. ⊎_elim (λ o. o.1) (λ o. absurd (o.2 e)) z) (by_op c)

  pub overflows : {k : ℕ} → StopsAt t row here-is k → k ≡ too_large → Overflows (row_at t row) ops
  overflows (inl z) e = absurd (omega (arith, z, e))
  overflows (inr c) e = ⊎_elim (λ o. o.1) (λ z. ⊎_elim (λ o. absurd (omega (arith, o.0, e))) (λ o. absurd (o.1 e)) z) (by_op c)

  pub compares : {k x y : ℕ} (b : ℕ) → 2 ≤ b → OpOf (row_at t row) ops b x y → StopsAt t row here-is k → k ≡ budget_spent
  compares b l o (inl e) = e
  compares b l o (inr c) = absurd (⊎_elim (λ z. omega (arith, l, o.1, z.1.2.1)) (λ z. ⊎_elim (λ z. omega (arith, l, o.1, z.1.2.1)) (λ z. z.0 o.0) z) (by_op c))

  -- In a chain: a call whose budget is spent stops with 31, whatever comes up; with budget left it stops for the cause, there and then
  pub stops_now : {budget k : ℕ} {es : List Event} {z : State} {o : Outcome} → SafeHere → Hinders k → Moments t ix (suc budget) here-is es z o
      → (es ≡ moment here-is (row_up t ix here-is) (stopped k) ∷ []) × (z ≡ here-is) × (o ≡ stopped k)
  stops_now r c (steps e m) = absurd (let z = sym (cause-stops r c) ∙ e in clash (cc (z)))
  stops_now r c (done e f h) = let z = sym (cause-stops r c) ∙ e in rw (← z) (refl, refl, refl)

pub spent-first : (t : List ℕ) (ix : Index) {s z : State} {es : List Event} {o : Outcome} → Moments t ix 0 s es z o → (es ≡ moment s (row_up t ix s) (stopped budget_spent) ∷ []) × (z ≡ s) × (o ≡ stopped budget_spent)
spent-first t ix spent = (refl, refl, refl)

-- 31 is told where the budget is spent and nowhere else: as many instructions were done as the budget has, and one more has come up
pub spent-only : (t : List ℕ) (ix : Index) {budget : ℕ} {s z : State} {es : List Event} {o : Outcome} → Moments t ix budget s es z o → o ≡ stopped budget_spent → length es ≡ suc budget
spent-only t ix spent e = refl
spent-only t ix (steps d m) e = ap suc (spent-only t ix m e)
spent-only t ix (done d f h) e = absurd (h e)

pub spent_then : (t : List ℕ) (ix : Index) {budget : ℕ} {s z : State} {es : List Event} {o : Outcome} → Moments t ix budget s es z o → length es ≡ suc budget → o ≡ stopped budget_spent
spent_then t ix spent e = refl
spent_then t ix (steps d m) e = spent_then t ix m (omega (arith, e))
spent_then t ix (done d f h) e = absurd (omega (arith, e))

-- the end of a call tells its last moment
pub last-moment : (t : List ℕ) (ix : Index) {budget : ℕ} {s z : State} {es : List Event} {o : Outcome} → Moments t ix budget s es z o → (front : List Event) × (es ≡ front ++ (moment z (row_up t ix z) o ∷ []))
last-moment t ix spent = ([], refl)
last-moment t ix (steps {s} {s'} e m) = let w = last-moment t ix m in (moment s (row_up t ix s) (next s') ∷ w.0, ap (λ (l : List Event). moment s (row_up t ix s) (next s') ∷ l) w.1)
last-moment t ix (done e f h) = ([], refl)

-- the numbers of the stops
pub stop_numbers : budget_spent ∷ too_large ∷ key_taken ∷ no_such_key ∷ stale_reference ∷ too_many_frames ∷ too_many_records ∷ too_many_entries ∷ below_zero ∷ [] ≡ 31 ∷ 32 ∷ 33 ∷ 34 ∷ 35 ∷ 36 ∷ 37 ∷ 38 ∷ 39 ∷ []
stop_numbers = refl
