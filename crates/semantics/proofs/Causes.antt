-- An instruction that stops has a cause to, in every state of every table; so none stops with 31.
use Prim.Native.Nat.{ℕ, ◌+◌, ◌-◌, ◌/◌, ◌%◌, ◌<◌}
use mathlib.Core.Path.{◌≡◌, refl, ap, ◌∙◌}
use mathlib.Core.List.{List, [], ◌∷◌}
use mathlib.Core.Logic.{◌⊎◌, inl, inr}
use mathlib.Core.Option.{Option}
use native.Mathlib.Omega.{arith}
use lib.ListN.{length, get_or, get_elem? as nth}
use Rattle.table.specs.declared.Row.{Row}
use Rattle.table.specs.declared.index.Index.{Index}
use Rattle.table.specs.Format.{op_read_ref, op_borrow_fld, op_op}
use Rattle.declarations.specs.Program.{procedure_in, local_count, local_kind}
use Rattle.arithmetic.specs.Arithmetic.{Calculated, Value as Gives, TooLarge, BelowZero, Unknown, past_numbers, calculation}
use Rattle.arithmetic.proofs.Range as Range
use Rattle.semantics.specs.Limits.{max_frames, max_records, max_entries, budget_spent, stale_reference}
use Rattle.semantics.specs.Machine.{Value, num, Cell, Entry, Frame, frame, State, state, Outcome, stopped, stuck, live_count, find_key, Target, stale, in_cell, target}
use Rattle.semantics.specs.Step.{pushed_on, Taken, missing, took, taken, with_taken, none_held, returned, calculated, actions, instruction, effect_at, act, step}
use Rattle.semantics.specs.Stops.{Cause, sum_too_large, below-zero, key-taken, no-such-key, stale-there, stale-written, frames-full, records-full, entries-full}
use Rattle.semantics.proofs.Changes.{clash}
use Rattle.semantics.proofs.Sounds.{found-there, none_found}
use Rattle.semantics.proofs.Running.{target-same}
use Rattle.semantics.proofs.Stale.{stale_value}
use Rattle.semantics.proofs.Handing.{taken_shape}
use Rattle.semantics.proofs.Outcomes.{OutQ, goes, ends, stops, sticks, cond_q, limit_q, local_q, one_q, two_q, number_q, record_q, reference_q, number_at_q, record_at_q, fields_at_q, fillable_q, field_q, key_q, under_q, pick}

-- the number of a cause: of 64 bits, and not 31
cause-number : {r : Row} {ops : List Value} {fs : List Frame} {rs : List Cell} {st : List Entry} {k : ℕ} → Cause r ops fs rs st k → (budget_spent < k) × (k < past_numbers)
cause-number (sum_too_large o) = (omega arith, omega arith)
cause-number (key-taken e q m) = (omega arith, omega arith)
cause-number (no-such-key e q m) = (omega arith, omega arith)
cause-number (stale-there e q s) = (omega arith, omega arith)
cause-number (stale-written e q s) = (omega arith, omega arith)
cause-number (frames-full e l) = (omega arith, omega arith)
cause-number (records-full e l) = (omega arith, omega arith)
cause-number (entries-full e q m l) = (omega arith, omega arith)
cause-number (below-zero o) = (omega arith, omega arith)

abbrev G : List Frame → ℕ → Type 0
G fs n = Unit {0}

abbrev E : List Value → State → Type 0
E vs s = Unit {0}

-- An instruction of row r, instruction i of the running frame's procedure p, over the operands ops: it took the values vs and left `under`
module _ (r : Row) (kind others : ℕ) (id p i : ℕ) (ops : List Value) (ls : List (Option Value)) (fs : List Frame) (rs : List Cell) (st : List Entry) (n : ℕ) where
  abbrev here_now : List Frame
  here_now = frame id p i ops ls ∷ fs

  abbrev S : ℕ → Type 0
  S k = Cause r ops here_now rs st k

  module _ (vs under : List Value) (shape : ops ≡ pushed_on vs under) where
    -- the one operand that was taken; the two, the second on top
    only : (v : Value) {w : Value} → vs ≡ w ∷ [] → w ≡ v → ops ≡ v ∷ under
    only v q e = shape ∙ ap (λ (l : List Value). pushed_on l under) (q ∙ ap (λ (x : Value). x ∷ []) e)

    both : (v w : Value) {v' w' : Value} → vs ≡ v' ∷ w' ∷ [] → v' ≡ v → w' ≡ w → ops ≡ w ∷ v ∷ under
    both v w q e d = let z : vs ≡ v ∷ w ∷ [] = cc (q, e, d) in shape ∙ ap (λ (l : List Value). pushed_on l under) z

    abbrev lead : Value → Target
    lead v = target (frame id p i under ls ∷ fs) rs v

    -- a stale reference that was taken alone, or with a number under it
    stale_read : (v : Value) → vs ≡ v ∷ [] → (r.a ≡ op_read_ref) ⊎ (r.a ≡ op_borrow_fld) → lead v ≡ stale → S stale_reference
    stale_read v q e z = let g = stale_value here_now rs v (target-same id p i i ops under ls fs rs v ∙ z) in stale-there e (only _ q g.2) g.3

    stale_write : (v w : Value) (x : ℕ) → vs ≡ v ∷ w ∷ [] → v ≡ num x → r.a ≡ 7 → lead w ≡ stale → S stale_reference
    stale_write v w x q u e z = let g = stale_value here_now rs w (target-same id p i i ops under ls fs rs w ∙ z) in stale-written e (both _ _ q u g.2) g.3

    back : (gs : List Frame) → OutQ G E S (returned gs vs rs st n)
    back [] = ends tt
    back (frame id' p' i' ops' ls' ∷ gs) = goes tt

    given : r.a ≡ op_op → (x y : ℕ) → ops ≡ num y ∷ num x ∷ under → (c : Calculated) → calculation r.b x y ≡ c → OutQ G E S (calculated r.b r.d kind others vs id p i under ls fs rs st n c)
    given e x y q (Gives z) d = goes tt
    given e x y q TooLarge d = let g = (Range.too_large r.b x y).0 d in stops (sum_too_large (x, y, (e, g.0, (under, q)), g.1))
    given e x y q BelowZero d = let g = (Range.below-zero r.b x y).0 d in stops (below-zero (x, y, (e, g.0, (under, q)), omega (arith, g.1)))
    given e x y q Unknown d = sticks

    acted : OutQ G E S (get_or (actions r.b r.d kind others vs id p i under ls fs rs st n) r.a stuck)
    unfolding actions
    acted = pick G E S r.a 0 (actions r.b r.d kind others vs id p i under ls fs rs st n) (
      (λ e. goes tt),
      (
        (λ e. goes tt),
        (
          (λ e. local_q G E S (nth ls r.b) _ (λ v q. goes tt)),
          (
            (λ e. local_q G E S (nth ls r.b) _ (λ v q. goes tt)),
            (
              (λ e. one_q G E S vs _ (λ v q. fillable_q G E S (nth ls r.b) _ (goes tt))),
              (
                (λ e. local_q G E S (nth ls r.b) _ (λ v q. goes tt)),
                (
                  (λ e. one_q G E S vs _ (λ v q. number_at_q G E S (lead v) _ (stale_read v q (inl e)) (λ x. goes tt))),
                  (
                    (λ e. two_q G E S vs _ (λ v w q. number_q G E S v _ (λ x u. number_at_q G E S (lead w) _ (stale_write v w x q u e) (λ y. goes tt)))),
                    (
                      (λ e. one_q G E S vs _ (λ v q. record_at_q G E S (lead v) _ (stale_read v q (inr e)) (λ c ws z. field_q G E S c (r.b / 8) (r.b % 8) (nth ws (r.b % 8)) _ (goes tt) (λ c' y u. goes tt)))),
                      (
                        (λ e. limit_q G E S (live_count rs) max_records _ _ (goes tt) (λ l. stops (records-full e l))),
                        (
                          (λ e. one_q G E S vs _ (λ v q. record_q G E S v _ (λ a c o. fields_at_q G E S (in_cell a (nth rs a)) _ (λ c ws z. goes tt)))),
                          (
                            (λ e. two_q G E S vs _ (λ v w q. record_q G E S v _ (λ c y o. number_q G E S w _ (λ a u. key_q G E S (find_key st r.b a) _ _
                                (λ z. limit_q G E S (length st) max_entries _ _ (goes tt) (λ l. stops (entries-full e (both _ _ q o u) (none_found st r.b a z) l)))
                                (λ c' z. stops (key-taken e (both _ _ q o u) (found-there st r.b a c' z))))))),
                            (
                              (λ e. one_q G E S vs _ (λ v q. number_q G E S v _ (λ a u. key_q G E S (find_key st r.b a) _ _ (λ z. stops (no-such-key (inl e) (only _ q u) (none_found st r.b a z))) (λ c z. goes tt)))),
                              (
                                (λ e. one_q G E S vs _ (λ v q. number_q G E S v _ (λ a u. key_q G E S (find_key st r.b a) _ _ (λ z. stops (no-such-key (inr e) (only _ q u) (none_found st r.b a z))) (λ c z. goes tt)))),
                                (
                                  (λ e. one_q G E S vs _ (λ v q. number_q G E S v _ (λ a u. key_q G E S (find_key st r.b a) _ _ (λ z. goes tt) (λ c z. goes tt)))),
                                  (
                                    (λ e. limit_q G E S (length fs + 1) max_frames _ _ (goes tt) (λ l. stops (frames-full e (omega (arith, l))))),
                                    (
                                      (λ e. cond_q G E S (none_held ls) _ _ (under_q G E S under _ (λ u. back fs)) sticks),
                                      (
                                        (λ e. goes tt),
                                        (
                                          (λ e. one_q G E S vs _ (λ v q. number_q G E S v _ (λ x u. goes tt))),
                                          (
                                            (λ e. two_q G E S vs _ (λ v w q. number_q G E S v _ (λ x u. number_q G E S w _ (λ y d. given e x y (both _ _ q u d) (calculation r.b x y) refl)))),
                                            (
                                              (λ e. one_q G E S vs _ (λ v q. reference_q G E S v _ (λ w x u. goes tt))),
                                              tt,
                                            ),
                                          ),
                                        ),
                                      ),
                                    ),
                                  ),
                                ),
                              ),
                            ),
                          ),
                        ),
                      ),
                    ),
                  ),
                ),
              ),
            ),
          ),
        ),
      ),
    )
        r.a (omega arith)

module _ (t : List ℕ) (ix : Index) where
  caused : (id p i : ℕ) (ops : List Value) (ls : List (Option Value)) (fs : List Frame) (rs : List Cell) (st : List Entry) (n : ℕ)
      → OutQ G E (Cause (instruction t ix p i) ops (frame id p i ops ls ∷ fs) rs st) (step t ix (state (frame id p i ops ls ∷ fs) rs st n))
  unfolding act
  caused id p i ops ls fs rs st n = cond_q G E _ (effect_at t ix p i ops).fit _ _ (go (taken (effect_at t ix p i ops).takes ops) refl) sticks
    where
      go : (x : Taken) → taken (effect_at t ix p i ops).takes ops ≡ x
          → OutQ G E (Cause (instruction t ix p i) ops (frame id p i ops ls ∷ fs) rs st) (with_taken x λ (vs rest : List Value).
          get_or (actions (instruction t ix p i).b (instruction t ix p i).d (local_kind t (procedure_in ix p) (instruction t ix p i).b) (local_count (procedure_in ix (instruction t ix p i).b) - length vs) vs id p i rest ls fs rs st n) (instruction t ix p i).a stuck)
      go missing e = sticks
      go (took vs under) e = acted (instruction t ix p i) _ _ id p i ops ls fs rs st n vs under (taken_shape (effect_at t ix p i ops).takes ops vs under e)

  cause_of : {A : ℕ → Type 0} (o : Outcome) (k : ℕ) → OutQ G E A o → o ≡ stopped k → A k
  cause_of {A} (stopped j) k (stops c) q = let z : j ≡ k = cc (q) in rw z at c
  cause_of o k (goes x) q = absurd (clash (cc (q)))
  cause_of o k (ends x) q = absurd (clash (cc (q)))
  cause_of o k sticks q = absurd (clash (cc (q)))

  -- a stop has its cause
  pub stop_caused : (id p i : ℕ) (ops : List Value) (ls : List (Option Value)) (fs : List Frame) (rs : List Cell) (st : List Entry) (n k : ℕ) → step t ix (state (frame id p i ops ls ∷ fs) rs st n) ≡ stopped k
      → Cause (instruction t ix p i) ops (frame id p i ops ls ∷ fs) rs st k
  stop_caused id p i ops ls fs rs st n k = cause_of _ k (caused id p i ops ls fs rs st n)

  -- its number has 64 bits, and is not 31
  stop_number : (s : State) (k : ℕ) → step t ix s ≡ stopped k → (budget_spent < k) × (k < past_numbers)
  stop_number (state [] rs st n) k e = absurd (clash (cc (e)))
  stop_number (state (frame id p i ops ls ∷ fs) rs st n) k e = cause-number (stop_caused id p i ops ls fs rs st n k e)

  pub stop_few : (s : State) (k : ℕ) → step t ix s ≡ stopped k → k < past_numbers
  stop_few s k e = (stop_number s k e).1

  pub never_spent : (s : State) → step t ix s ≡ stopped budget_spent → ⊥
  never_spent s e = omega (arith, (stop_number s budget_spent e).0)
