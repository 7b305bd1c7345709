-- Wrong stops are not safe, nor is going on where there is a cause to stop: the wrong machines that these clauses of the claim shut out.
use Prim.Native.Nat.{ℕ, suc, ◌<◌, ◌≤◌}
use mathlib.Core.Path.{◌≡◌, refl, ap, sym, ◌∙◌}
use mathlib.Core.List.Memᴰ
use mathlib.Core.List.{List, [], ◌∷◌}
use mathlib.Core.Bool.{Bool}
use mathlib.Core.Logic.{◌⊎◌, inl, inr, ⊎_elim, ◌≢◌}
use mathlib.Core.Option.{Option, none, some}
use native.Mathlib.Omega.{arith}
use lib.ListN.{length, get_elem? as nth}
use Rattle.table.specs.declared.index.Index.{Index}
use Rattle.table.specs.Format.{op_read_ref, op_write_ref, op_pack, op_move_to, op_move_from, op_call, op_op}
use Rattle.table.specs.Rows.{row_at}
use Rattle.reach.specs.Reach.{Mem}
use Rattle.arithmetic.specs.Arithmetic.{Value as Gives, addition, subtraction, is_equal, is_less, calculation}
use Rattle.arithmetic.proofs.Range as Range
use Rattle.semantics.specs.Machine.{to_local, to_field, Value, num, obj, refer, Cell, gone, Entry, Frame, frame, State, state, next, stopped, live_count}
use Rattle.semantics.specs.History.{Base, Event, moment, ended}
use Rattle.semantics.specs.Words.{IsEntry}
use Rattle.semantics.specs.Stops.{of_field, unpacked, has-returned, is-empty, NoEntry, OpOf, Cause, sum_too_large, below-zero, key-taken, no-such-key, stale-there, stale-written, frames-full, records-full, entries-full}
use Rattle.semantics.specs.Claim.{SafeState, Calculates, StopsAt, SafeEnd, goes, stops, restores, Safe, safe, ends}
use Rattle.semantics.specs.Chain.{Moments}
use Rattle.semantics.proofs.Changes.{clash}
use Rattle.semantics.proofs.Stops.{overdraws, overflows, compares, stops_now, spent-first, spent-only}

-- two numbers on top are these two
same_first : {ops under under' : List Value} {x y x' y' : ℕ} → ops ≡ num y ∷ num x ∷ under → ops ≡ num y' ∷ num x' ∷ under' → x ≡ x'
same_first a b = cc (a, b)

same_second : {ops under under' : List Value} {x y x' y' : ℕ} → ops ≡ num y ∷ num x ∷ under → ops ≡ num y' ∷ num x' ∷ under' → y ≡ y'
same_second a b = cc (a, b)

-- Frame id of procedure p is at instruction i over the frames fs, and `row` is told
module _ (t : List ℕ) (ix : Index) (row id p i : ℕ) (ops : List Value) (ls : List (Option Value)) (fs : List Frame) (rs : List Cell) (st : List Entry) (n : ℕ) where
  abbrev pub here-is : State
  here-is = state (frame id p i ops ls ∷ fs) rs st n

  -- it stops with k: a safe moment, or a safe end of the call, of which the line is printed; neither can be
  abbrev pub StopsWith : ℕ → Type 0
  StopsWith k = Safe t ix (moment here-is row (stopped k)) ⊎ ((before after : Base) × Safe t ix (ended before here-is row (stopped k) after))

  end_of : {k : ℕ} {before after : Base} → SafeEnd t ix before here-is row (stopped k) after → StopsAt t row here-is k
  end_of (restores c r) = c

  stops_of : {k : ℕ} → StopsWith k → StopsAt t row here-is k
  stops_of (inl (safe s (stops c))) = c
  stops_of (inr (before, after, ends e l)) = end_of e

  -- 32 for a difference, 39 for a sum
  pub not_sum_for_difference : {x y : ℕ} → OpOf (row_at t row) ops subtraction x y → StopsWith 32 → ⊥
  not_sum_for_difference o s = let z = overflows t ix row id p i ops ls fs rs st n (stops_of s) refl in omega (arith, o.1, z.2.1)

  pub not_difference_for_sum : {x y : ℕ} → OpOf (row_at t row) ops addition x y → StopsWith 39 → ⊥
  not_difference_for_sum o s = let z = overdraws t ix row id p i ops ls fs rs st n (stops_of s) refl in omega (arith, o.1, z.2.1)

  -- 39 for two equal numbers, or where the first is above the second; 32 for the largest number
  pub not_at_equal : {x : ℕ} → OpOf (row_at t row) ops subtraction x x → StopsWith 39 → ⊥
  not_at_equal o s = let z = overdraws t ix row id p i ops ls fs rs st n (stops_of s) refl in let a = o.2.1 in let b = z.2.2.1 in omega (arith, z.3, same_first a b, same_second a b)

  pub not_turned_round : OpOf (row_at t row) ops subtraction 6 5 → StopsWith 39 → ⊥
  not_turned_round o s = let z = overdraws t ix row id p i ops ls fs rs st n (stops_of s) refl in let a = o.2.1 in let b = z.2.2.1 in omega (arith, z.3, same_first a b, same_second a b)

  pub not_at_largest : OpOf (row_at t row) ops addition 18446744073709551615 0 → StopsWith 32 → ⊥
  not_at_largest o s = let z = overflows t ix row id p i ops ls fs rs st n (stops_of s) refl in let a = o.2.1 in let b = z.2.2.1 in omega (arith, z.3, same_first a b, same_second a b)

  -- 39 or 32 of another instruction than Op
  pub not_below_zero_else : (row_at t row).a ≢ op_op → StopsWith 39 → ⊥
  not_below_zero_else f s = f (overdraws t ix row id p i ops ls fs rs st n (stops_of s) refl).2.0

  pub not_too_large_else : (row_at t row).a ≢ op_op → StopsWith 32 → ⊥
  not_too_large_else f s = f (overflows t ix row id p i ops ls fs rs st n (stops_of s) refl).2.0

  -- equal and less stop, but not for the budget
  pub not_at_equality : {k x y : ℕ} → OpOf (row_at t row) ops is_equal x y → k ≢ 31 → StopsWith k → ⊥
  not_at_equality o f s = f (compares t ix row id p i ops ls fs rs st n is_equal (omega arith) o (stops_of s))

  pub not_at_comparison : {k x y : ℕ} → OpOf (row_at t row) ops is_less x y → k ≢ 31 → StopsWith k → ⊥
  not_at_comparison o f s = f (compares t ix row id p i ops ls fs rs st n is_less (omega arith) o (stops_of s))

  -- 36, 37 or 38 below the limit
  full_of : {k : ℕ} → StopsAt t row here-is k → ((k ≡ 36) → 16 ≤ suc (length fs)) × ((k ≡ 37) → 128 ≤ live_count rs) × ((k ≡ 38) → 64 ≤ length st)
  full_of (inl e) = ((λ q. absurd (omega (arith, e, q))), (λ q. absurd (omega (arith, e, q))), λ q. absurd (omega (arith, e, q)))
  full_of (inr (sum_too_large o)) = ((λ q. absurd (omega arith)), (λ q. absurd (omega arith)), λ q. absurd (omega arith))
  full_of (inr (below-zero o)) = ((λ q. absurd (omega arith)), (λ q. absurd (omega arith)), λ q. absurd (omega arith))
  full_of (inr (key-taken e q m)) = ((λ q. absurd (omega arith)), (λ q. absurd (omega arith)), λ q. absurd (omega arith))
  full_of (inr (no-such-key e q m)) = ((λ q. absurd (omega arith)), (λ q. absurd (omega arith)), λ q. absurd (omega arith))
  full_of (inr (stale-there e q m)) = ((λ q. absurd (omega arith)), (λ q. absurd (omega arith)), λ q. absurd (omega arith))
  full_of (inr (stale-written e q m)) = ((λ q. absurd (omega arith)), (λ q. absurd (omega arith)), λ q. absurd (omega arith))
  full_of (inr (frames-full e l)) = ((λ q. l), (λ q. absurd (omega arith)), λ q. absurd (omega arith))
  full_of (inr (records-full e l)) = ((λ q. absurd (omega arith)), (λ q. l), λ q. absurd (omega arith))
  full_of (inr (entries-full e q m l)) = ((λ q. absurd (omega arith)), (λ q. absurd (omega arith)), λ q. l)

  pub not_at_16th_frame : length fs < 15 → StopsWith 36 → ⊥
  not_at_16th_frame l s = omega (arith, l, (full_of (stops_of s)).0 refl)

  pub not_at_128th_record : live_count rs < 128 → StopsWith 37 → ⊥
  not_at_128th_record l s = omega (arith, l, (full_of (stops_of s)).1 refl)

  pub not_at_64th_entry : length st < 64 → StopsWith 38 → ⊥
  not_at_64th_entry l s = omega (arith, l, (full_of (stops_of s)).2 refl)

  -- In a chain: 39 where the budget is spent; 31 where it is not, with a difference below zero or whatever else
  pub not_before_budget : {es : List Event} {z : State} → Moments t ix 0 here-is es z (stopped 39) → ⊥
  not_before_budget m = let e = (spent-first t ix m).2 in let q : ◌≡◌ {A = ℕ} 39 31 = cc (e) in omega (arith, q)

  pub not_budget_early : {budget x y : ℕ} {es : List Event} {z : State} → SafeState t ix row id p i ops ls fs rs st n → OpOf (row_at t row) ops subtraction x y → x < y → Moments t ix (suc budget) here-is es z (stopped 31) → ⊥
  not_budget_early {x} {y} r o l m = let e = (stops_now t ix row id p i ops ls fs rs st n r (below-zero (x, y, o, l)) m).2 in let q : ◌≡◌ {A = ℕ} 31 39 = cc (e) in omega (arith, q)

  pub not_budget_left : {budget : ℕ} {z : State} → Moments t ix (suc budget) here-is (moment here-is row (stopped 31) ∷ []) z (stopped 31) → ⊥
  not_budget_left m = omega (arith, spent-only t ix m refl)

  -- It is done, and leads to the state after
  module _ (fs' : List Frame) (rs' : List Cell) (st' : List Entry) (n' : ℕ) where
    abbrev pub Done : Type 0
    Done = Safe t ix (moment here-is row (next (state fs' rs' st' n')))

    done_free : {k : ℕ} → Done → Cause (row_at t row) ops (frame id p i ops ls ∷ fs) rs st k → ⊥
    done_free {k} (safe s (goes u a b c d g)) q = u k q

    calculates_of : Done → Calculates t ix row id p i ops ls fs rs st fs' rs' st'
    calculates_of (safe s (goes u a b c d g)) = g

    -- a difference below zero, or a sum above 64 bits, that goes on, as one that wraps around does
    pub not_wrapped_below : {x y : ℕ} → OpOf (row_at t row) ops subtraction x y → x < y → Done → ⊥
    not_wrapped_below {x} {y} o l s = done_free s (below-zero (x, y, o, l))

    pub not_wrapped_above : OpOf (row_at t row) ops addition 18446744073709551615 1 → Done → ⊥
    not_wrapped_above o s = done_free s (sum_too_large (18446744073709551615, 1, o, omega arith))

    -- another number is pushed than the sum, or than the difference, the one of the operands turned round for instance; two equal numbers are told apart; less is told the
    -- other way round
    result-of : (b : ℕ) {x y z j : ℕ} {rest : List Value} {ls' : List (Option Value)} {gs : List Frame} → OpOf (row_at t row) ops b x y → fs' ≡ frame id p j (num z ∷ rest) ls' ∷ gs → Done → calculation b x y ≡ Gives z
    result-of b {x} {y} {z} o e s =
        let c = calculates_of s o.0 in
        let a = o.2.1 in
        let w : c.2 ≡ z = cc (e, c.6) in
        is c.0 c.1 c.2 o.1 (same_first c.4 a) (same_second c.4 a) w c.5
      where
        is : (x' y' z' : ℕ) → (row_at t row).b ≡ b → x' ≡ x → y' ≡ y → z' ≡ z → calculation (row_at t row).b x' y' ≡ Gives z' → calculation b x y ≡ Gives z
        is x' y' z' u v w k h = sym (ap (λ (q : ℕ). calculation q x y) u) ∙ sym (ap (λ (q : ℕ). calculation (row_at t row).b q y) v) ∙ sym (ap (λ (q : ℕ). calculation (row_at t row).b x' q) w) ∙ h ∙ ap (λ (q : ℕ). Gives q) k

    pub not_miscalculated : {z j : ℕ} {rest : List Value} {ls' : List (Option Value)} {gs : List Frame} → OpOf (row_at t row) ops subtraction 7 5 → fs' ≡ frame id p j (num z ∷ rest) ls' ∷ gs → z ≢ 2 → Done → ⊥
    not_miscalculated {z} o e f s = f (omega (arith, (Range.difference 7 5 z).0 (result-of subtraction o e s)))

    pub not_missummed : {z j : ℕ} {rest : List Value} {ls' : List (Option Value)} {gs : List Frame} → OpOf (row_at t row) ops addition 7 5 → fs' ≡ frame id p j (num z ∷ rest) ls' ∷ gs → z ≢ 12 → Done → ⊥
    not_missummed {z} o e f s = let d = (Range.sum 7 5 z).0 (result-of addition o e s) in f (omega (arith, d.0))

    pub not_told_apart : {x z j : ℕ} {rest : List Value} {ls' : List (Option Value)} {gs : List Frame} → OpOf (row_at t row) ops is_equal x x → fs' ≡ frame id p j (num z ∷ rest) ls' ∷ gs → z ≢ 1 → Done → ⊥
    not_told_apart {x} {z} o e f s = ⊎_elim (λ h. f h.1) (λ h. h.0 refl) ((Range.equal x x z).0 (result-of is_equal o e s))

    pub not_less_turned : {z j : ℕ} {rest : List Value} {ls' : List (Option Value)} {gs : List Frame} → OpOf (row_at t row) ops is_less 5 7 → fs' ≡ frame id p j (num z ∷ rest) ls' ∷ gs → z ≢ 1 → Done → ⊥
    not_less_turned {z} o e f s = ⊎_elim (λ h. f h.1) (λ h. omega (arith, h.0)) ((Range.less 5 7 z).0 (result-of is_less o e s))

    -- Op changes a record or an entry
    pub not_calculated_besides : {b x y : ℕ} → OpOf (row_at t row) ops b x y → (rs' ≢ rs) ⊎ (st' ≢ st) → Done → ⊥
    not_calculated_besides o f s = let c = calculates_of s o.0 in ⊎_elim (λ g. g c.7) (λ g. g c.8) f

    -- the other limits: a key that is taken, none that is there, a stale reference, a 17th frame, a 129th live record, a 65th entry
    pub not_under_taken_key : {a c y r : ℕ} {rest : List Value} → (row_at t row).a ≡ op_move_to → ops ≡ num a ∷ obj c y ∷ rest → IsEntry st (row_at t row).b a r → Done → ⊥
    not_under_taken_key e q m s = done_free s (key-taken e q m)

    pub not_without_key : {a : ℕ} {rest : List Value} → (row_at t row).a ≡ op_move_from → ops ≡ num a ∷ rest → NoEntry st (row_at t row).b a → Done → ⊥
    not_without_key e q m s = done_free s (no-such-key (inl e) q m)

    pub not_read_unpacked : {w : Bool} {c y j : ℕ} {rest : List Value} → (row_at t row).a ≡ op_read_ref → ops ≡ refer w (to_field c y j) ∷ rest → nth rs c ≡ some (gone y) → Done → ⊥
    not_read_unpacked e q m s = done_free s (stale-there (inl e) q (unpacked of_field m))

    pub not_read_empty : {w : Bool} {l k : ℕ} {rest : List Value} → (row_at t row).a ≡ op_read_ref → ops ≡ refer w (to_local id l k) ∷ rest → nth ls l ≡ some none → Done → ⊥
    not_read_empty e q m s = done_free s (stale-there (inl e) q (is-empty (Memᴰ.head refl) (λ v z. clash (cc (m, z)))))

    pub not_written_returned : {w : Bool} {f l k x : ℕ} {rest : List Value} → (row_at t row).a ≡ op_write_ref → ops ≡ refer w (to_local f l k) ∷ num x ∷ rest
        → ((p' i' : ℕ) (ops' : List Value) (ls' : List (Option Value)) → ¬ (Mem (frame f p' i' ops' ls') (frame id p i ops ls ∷ fs))) → Done → ⊥
    not_written_returned e q m s = done_free s (stale-written e q (has-returned m))

    pub not_17th_frame : (row_at t row).a ≡ op_call → length fs ≡ 15 → Done → ⊥
    not_17th_frame e l s = done_free s (frames-full e (omega (arith, l)))

    pub not_129th_record : (row_at t row).a ≡ op_pack → live_count rs ≡ 128 → Done → ⊥
    not_129th_record e l s = done_free s (records-full e (omega (arith, l)))

    pub not_65th_entry : {a c y : ℕ} {rest : List Value} → (row_at t row).a ≡ op_move_to → ops ≡ num a ∷ obj c y ∷ rest → NoEntry st (row_at t row).b a → length st ≡ 64 → Done → ⊥
    not_65th_entry e q m l s = done_free s (entries-full e q m (omega (arith, l)))
