-- What a step leaves of the frames, and where the references come from that the frame that ran holds after it.
use Prim.Native.Nat.{ℕ, zero, suc, ◌+◌, ◌-◌, ◌/◌, ◌%◌, ◌<◌}
use mathlib.Core.Path.{◌≡◌, refl, ap, sym, ◌∙◌}
use mathlib.Core.List.Memᴰ
use mathlib.Core.List.{List, [], ◌∷◌}
use mathlib.Core.Bool.{Bool, true, false, cond, not, ◌&&◌}
use mathlib.Core.Option.{Option, none, some}
use mathlib.Core.Logic.{◌⊎◌, inl, inr, ⊎_elim, ◌≢◌}
use native.Mathlib.Omega.{arith}
use lib.ListN.{length, get_or, set, get_elem? as nth}
use lib.Dec.{eqb}
use Rattle.table.specs.declared.index.Index.{Index}
use Rattle.table.specs.declared.index.ProcedureEntry.{ProcedureEntry}
use Rattle.table.specs.Format.{op_write_ref, op_freeze}
use Rattle.table.specs.Rows.{row_at}
use Rattle.declarations.specs.Program.{procedure_in, local_count, local_kind}
use Rattle.reach.specs.Reach.{Mem}
use Rattle.arithmetic.specs.Arithmetic.{Calculated, Value as Gives, TooLarge, BelowZero, Unknown, calculation}
use Rattle.semantics.specs.Machine.{Ref, to_local, to_field, to_record, Value, num, obj, refer, value_kind, writable, Cell, gone, here, Entry, Frame, frame, State, state, next, stuck, live_count, find_key, put_local, Target, a_record, in_cell, target, write_frames}
use Rattle.semantics.specs.Step.{pushed_on, Taken, took, missing, taken, also_taken, with_taken, start_locals, returned, none_held, calculated, actions, instruction, effect_at, act, step}
use Rattle.semantics.specs.Limits.{max_frames, max_records, max_entries}
use Rattle.semantics.specs.Words.{body_of, Holds, operand, local}
use Rattle.semantics.specs.Claim.{All, none_left, also, Rising, IsReference, Makes, local-made, field-made, nested-made, entry-made, frozen-made, Takes, Handed, goes_on, writes, calls, returns, Origin}
use Rattle.semantics.proofs.Changes.{clash}
use Rattle.semantics.proofs.Typing.{Fields, dnil, dnum, dobj, CellOk}
use Rattle.semantics.proofs.Frames.{all_set}
use Rattle.semantics.proofs.Running.{target-same}
use Rattle.semantics.proofs.Outcomes.{OutQ, goes, ends, stops, sticks, cond_q, limit_q, local_q, one_q, two_q, number_q, record_q, reference_q, number_at_q, record_at_q, fields_at_q, fillable_q, field_q, key_q, under_q, pick}

-- lists
pub all_in : {A : Type 0} (Q : A → Type 0) (l : List A) → ((x : A) → Mem x l → Q x) → All Q l
all_in Q [] f = none_left
all_in Q (x ∷ l) f = also (f x (Memᴰ.head refl)) (all_in Q l (λ y m. f y (Memᴰ.tail m)))

pub all_out : {A : Type 0} {Q : A → Type 0} {l : List A} → All Q l → (x : A) → Mem x l → Q x
all_out none_left x m = absurd (Memᴰ.not-nil m)
all_out {A} {Q} (also {x = y} q a) x m = ⊎_elim (λ e. let z : y ≡ x = sym e in rw z at q) (λ r. all_out a x r) (Memᴰ.cases_cons m)

pub all_nth : {A : Type 0} {Q : A → Type 0} {l : List A} → All Q l → (i : ℕ) (x : A) → nth l i ≡ some x → Q x
all_nth none_left i x e = absurd (clash (cc))
all_nth (also {x = y} q a) zero x e = let z : y ≡ x = cc in rw z at q
all_nth (also q a) (suc i) x e = all_nth a i x e

-- what was taken, and what lies under it, were the operands
also_shape : (k : ℕ) (x : Taken) (vs under ops : List Value) → also_taken k x ≡ took vs under → ((us rest : List Value) → x ≡ took us rest → ops ≡ pushed_on us rest) → ops ≡ pushed_on vs under
also_shape k missing vs under ops e f = absurd (clash (cc))
also_shape k (took us []) vs under ops e f = absurd (clash (cc))
also_shape k (took us (v ∷ rest)) vs under ops e f = go (eqb (value_kind v) k) e
  where
    go : (c : Bool) → cond c (took (v ∷ us) rest) missing ≡ took vs under → ops ≡ pushed_on vs under
    go true q = let y : v ∷ us ≡ vs = cc in let z : rest ≡ under = cc in rw (← y, ← z) (f us (v ∷ rest) refl)
    go false q = absurd (clash (cc))

pub taken_shape : (ks : List ℕ) (ops vs under : List Value) → taken ks ops ≡ took vs under → ops ≡ pushed_on vs under
taken_shape [] ops vs under e = let y : [] ≡ vs = cc in let z : ops ≡ under = cc in rw (← y, ← z) refl
taken_shape (k ∷ ks) ops vs under e = also_shape k (taken ks ops) vs under ops e (λ us rest q. taken_shape ks ops us rest q)

in_cell-here : (id : ℕ) (o : Option Cell) (a : ℕ) (vs : List Value) → in_cell id o ≡ a_record a vs → (y : ℕ) × (o ≡ some (here y vs))
in_cell-here id none a vs e = absurd (clash (cc))
in_cell-here id (some (gone y)) a vs e = absurd (clash (cc))
in_cell-here id (some (here y ws)) a vs e = let z : ws ≡ vs = cc in (y, rw z refl)

abbrev SlotQ : (Value → Type 0) → Option Value → Type 0
SlotQ Q none = Unit {0}
SlotQ Q (some v) = Q v

slots_in : (Q : Value → Type 0) (ls : List (Option Value)) → ((l : ℕ) (v : Value) → nth ls l ≡ some (some v) → Q v) → All (SlotQ Q) ls
slots_in Q [] f = none_left
slots_in Q (none ∷ ls) f = also tt (slots_in Q ls (λ l v e. f (suc l) v e))
slots_in Q (some v ∷ ls) f = also (f 0 v refl) (slots_in Q ls (λ l w e. f (suc l) w e))

module _ (Q : Value → Type 0) where
  push_q : (ws ops : List Value) → All Q ws → All Q ops → All Q (pushed_on ws ops)
  push_q [] ops a c = c
  push_q (w ∷ ws) ops (also q a) c = push_q ws (w ∷ ops) a (also q c)

  push_back : (ws ops : List Value) → All Q (pushed_on ws ops) → All Q ws × All Q ops
  push_back [] ops c = (none_left, c)
  push_back (w ∷ ws) ops c = go (push_back ws (w ∷ ops) c)
    where
      go : All Q ws × All Q (w ∷ ops) → All Q (w ∷ ws) × All Q ops
      go (a, also q d) = (also q a, d)

  split_back : (l ws ops : List Value) → l ≡ pushed_on ws ops → All Q l → All Q ws × All Q ops
  split_back l ws ops e a = push_back ws ops (rw e at a)

-- opcodes that neither enter a frame nor leave one
abbrev ordinary : ℕ → Bool
ordinary k = not (eqb k 15) && not (eqb k 16)

apart : (op k : ℕ) → ordinary k ≡ true → op ≡ k → (op ≢ 15) × (op ≢ 16)
apart op k o e = (λ q. no_call (k) o (sym e ∙ q), λ q. no_ret k o (sym e ∙ q))
  where
    no_call : (k : ℕ) → (not (eqb k 15) && not (eqb k 16)) ≡ true → k ≡ 15 → ⊥
    no_call k o q = let z : (not (eqb 15 15) && not (eqb 15 16)) ≡ true = rw q at o in clash (ap (λ (b : Bool). cond b 1 0) z)

    no_ret : (k : ℕ) → (not (eqb k 15) && not (eqb k 16)) ≡ true → k ≡ 16 → ⊥
    no_ret k o q = let z : (not (eqb 16 15) && not (eqb 16 16)) ≡ true = rw q at o in clash (ap (λ (b : Bool). cond b 1 0) z)

-- Frame id of procedure p at instruction i, whose row is `row`. WriteRef and Freeze find a writable reference on top
module _ (t : List ℕ) (ix : Index) (T : List ℕ) (row id p i : ℕ) (ops : List Value) (ls : List (Option Value)) (fs : List Frame) (rs : List Cell) (st : List Entry) (n : ℕ)
    (records : All (CellOk t ix T) rs) (rising : Rising n (frame id p i ops ls ∷ fs)) (body : procedure_in ix p ≡ body_of t p)
    (callee : (row_at t row).a ≡ 15 → procedure_in ix (row_at t row).b ≡ body_of t (row_at t row).b)
    (through : ((row_at t row).a ≡ op_write_ref) ⊎ ((row_at t row).a ≡ op_freeze) → (w : Bool) (r : Ref) (rest : List Value) → ops ≡ refer w r ∷ rest → w ≡ true) where
  abbrev here_now : List Frame
  here_now = frame id p i ops ls ∷ fs

  -- a reference was held before, or is made
  abbrev Known : Value → Type 0
  Known v = IsReference v → Holds (frame id p i ops ls) v ⊎ Makes t row id p ops here_now rs st v

  number_known : (x : ℕ) → Known (num x)
  number_known x e = absurd e

  record_known : (c y : ℕ) → Known (obj c y)
  record_known c y e = absurd e

  ops_known : All Known ops
  ops_known = all_in Known ops (λ v m e. inl (operand m))

  slots_known : All (SlotQ Known) ls
  slots_known = slots_in Known ls (λ l v q e. inl (local l q))

  fields_known : {vs : List Value} {ks : List ℕ} → Fields T vs ks → All Known vs
  fields_known dnil = none_left
  fields_known (dnum {n} w e f) = also (number_known n) (fields_known f)
  fields_known (dobj {id} {y} w e f) = also (record_known id y) (fields_known f)

  cells_known : (c y : ℕ) (ws : List Value) → nth rs c ≡ some (here y ws) → All Known ws
  cells_known c y ws e = fields_known (all_nth records c (here y ws) e).1

  from : (j : ℕ) {ops' : List Value} {ls' : List (Option Value)} (fs' : List Frame) → All Known ops' → All (SlotQ Known) ls' → Origin t ix row id p i ops ls fs rs st (frame id p j ops' ls' ∷ fs')
  from j fs' a c e v r (operand m) = all_out a v m r
  from j fs' a c e v r (local l q) = all_nth c l (some v) q r

  abbrev G : List Frame → ℕ → Type 0
  G fs' n' = Handed t ix row id p i ops ls fs n fs' n' × Origin t ix row id p i ops ls fs rs st fs'

  abbrev E : List Value → State → Type 0
  E vs s = ((row_at t row).a ≡ 16) × Takes t ix p i ops vs [] × (fs ≡ []) × (s ≡ state [] rs st n)

  -- nothing of a stop
  abbrev S : ℕ → Type 0
  S k = Unit {0}

  -- the instruction took the values vs and left `under`
  module _ (vs under : List Value) (takes : Takes t ix p i ops vs under) where
    shape : ops ≡ pushed_on vs under
    shape = taken_shape (effect_at t ix p i ops).takes ops vs under takes

    split : All Known vs × All Known under
    split = split_back Known ops vs under shape ops_known

    on : (k j : ℕ) {ws : List Value} {ls' : List (Option Value)} {rs' : List Cell} {st' : List Entry} → ordinary k ≡ true → (row_at t row).a ≡ k → All Known ws → All (SlotQ Known) ls'
        → OutQ G E S (next (state (frame id p j (pushed_on ws under) ls' ∷ fs) rs' st' n))
    on k j {ws} {ls'} o e a c = let z = apart (row_at t row).a k o e in goes (goes_on z.0 z.1, from j fs (push_q Known ws under a split.1) c)

    abbrev lead : Value → Target
    lead r = target (frame id p i under ls ∷ fs) rs r

    -- where a reference leads does not depend on the operands
    leads : (r : Value) {x : Target} → lead r ≡ x → target here_now rs r ≡ x
    leads r z = target-same id p i i ops under ls fs rs r ∙ z

    top : (r : Value) → vs ≡ r ∷ [] → ops ≡ r ∷ under
    top r q = shape ∙ ap (λ (l : List Value). pushed_on l under) q

    only-number : (a : ℕ) (w : Value) → vs ≡ w ∷ [] → w ≡ num a → ops ≡ num a ∷ under
    only-number a w q u = top (num a) (q ∙ ap (λ (x : Value). x ∷ []) u)

    put-known : (b : Bool) (f l x : ℕ) → Origin t ix row id p i ops ls fs rs st (cond b (frame id p (i + 1) under (set ls l (some (num x))) ∷ fs) (frame id p (i + 1) under ls ∷ put_local fs f l (num x)))
    put-known true f l x = from (i + 1) fs split.1 (all_set slots_known l (some (num x)) (number_known x))
    put-known false f l x = from (i + 1) (put_local fs f l (num x)) split.1 slots_known

    written : (r : Value) (x : ℕ) {rs' : List Cell} → (row_at t row).a ≡ 7 → ops ≡ r ∷ num x ∷ under → OutQ G E S (next (state (write_frames (frame id p (i + 1) under ls ∷ fs) r (num x)) rs' st n))
    written (num m) x e s = on 7 (i + 1) {ws = []} refl e none_left slots_known
    written (obj c y) x e s = on 7 (i + 1) {ws = []} refl e none_left slots_known
    written (refer w (to_local f l k)) x e s = goes (writes e (s ∙ ap (λ (u : Bool). refer u (to_local f l k) ∷ num x ∷ under) (through (inl e) w (to_local f l k) (num x ∷ under) s)), put-known (eqb id f) f l x)
    written (refer w (to_field c y j)) x e s = on 7 (i + 1) {ws = []} refl e none_left slots_known
    written (refer w (to_record c y)) x e s = on 7 (i + 1) {ws = []} refl e none_left slots_known

    -- Freeze makes a reference that it took read-only
    frozen : (row_at t row).a ≡ 20 → (v : Value) (w : Bool) (r : Ref) → vs ≡ v ∷ [] → v ≡ refer w r → Known (refer false r)
    frozen e v w r q u k =
        let s : ops ≡ refer w r ∷ under = top (refer w r) (q ∙ ap (λ (x : Value). x ∷ []) u) in
        inr (frozen-made e (s ∙ ap (λ (x : Bool). refer x r ∷ under) (through (inr e) w r under s)))

    back : (gs : List Frame) → fs ≡ gs → (row_at t row).a ≡ 16 → under ≡ [] → OutQ G E S (returned gs vs rs st n)
    back [] q e u = ends (e, rw u at takes, q, refl)
    back (frame id' p' i' ops' ls' ∷ rest) q e u =
        let z : Rising id (frame id' p' i' ops' ls' ∷ rest) = rw q at rising.1 in
        goes (returns e (rw u at takes) q, λ w. absurd (omega (arith, z.0, w)))

    called : {rs' : List Cell} {st' : List Entry} → (row_at t row).a ≡ 15
        → OutQ G E S (next (state (frame n (row_at t row).b 0 [] (start_locals vs (local_count (procedure_in ix (row_at t row).b) - length vs)) ∷ frame id p i under ls ∷ fs) rs' st' (n + 1)))
    called e = goes (entered_by (callee e), λ w. absurd (omega (arith, rising.0, w)))
      where
        entered_by : {b : ProcedureEntry} → b ≡ body_of t (row_at t row).b → Handed t ix row id p i ops ls fs n (frame n (row_at t row).b 0 [] (start_locals vs (local_count b - length vs)) ∷ frame id p i under ls ∷ fs) (n + 1)
        entered_by c = rw c (calls e takes)

    abbrev b : ℕ
    b = (row_at t row).b

    abbrev d : ℕ
    d = (row_at t row).d

    -- what a local holds, what one operand is, a reference to an own local, and a number
    held : (v : Value) → nth ls b ≡ some (some v) → Known v
    held v q e = inl (local b q)

    only : (v : Value) → vs ≡ v ∷ [] → Known v
    only v q = all_nth split.0 0 v (ap (λ (l : List Value). nth l 0) q)

    borrowed : (row_at t row).a ≡ 5 → Known (refer true (to_local id b (local_kind t (procedure_in ix p) b)))
    borrowed e k = inr (made_by body)
      where
        made_by : {c : ProcedureEntry} → c ≡ body_of t p → Makes t row id p ops here_now rs st (refer true (to_local id b (local_kind t c b)))
        made_by c = rw c (local-made e)

    -- the two operands that were taken, the second on top
    both : (v w : Value) → vs ≡ v ∷ w ∷ [] → ops ≡ w ∷ v ∷ under
    both v w q = shape ∙ ap (λ (l : List Value). pushed_on l under) q

    given : (row_at t row).a ≡ 19 → (c : Calculated) → OutQ G E S (calculated (row_at t row).b (row_at t row).d (local_kind t (procedure_in ix p) (row_at t row).b) (local_count (procedure_in ix (row_at t row).b) - length vs) vs id p i under ls fs rs st n c)
    given e (Gives x) = on 19 (i + 1) {ws = num x ∷ []} refl e (also (number_known x) none_left) slots_known
    given e TooLarge = stops tt
    given e BelowZero = stops tt
    given e Unknown = sticks

    acted : OutQ G E S (get_or (actions (row_at t row).b (row_at t row).d (local_kind t (procedure_in ix p) (row_at t row).b) (local_count (procedure_in ix (row_at t row).b) - length vs) vs id p i under ls fs rs st n) (row_at t row).a stuck)
    unfolding actions
    acted = pick G E S (row_at t row).a 0 (actions (row_at t row).b (row_at t row).d (local_kind t (procedure_in ix p) (row_at t row).b) (local_count (procedure_in ix (row_at t row).b) - length vs) vs id p i under ls fs rs st n) (
      (λ e. on 0 (i + 1) {ws = []} refl e none_left slots_known),
      (
        (λ e. on 1 (i + 1) {ws = num d ∷ []} refl e (also (number_known d) none_left) slots_known),
        (
          (λ e. local_q G E S (nth ls b) _ (λ v q. on 2 (i + 1) {ws = v ∷ []} refl e (also (held v q) none_left) (all_set slots_known b none tt))),
          (
            (λ e. local_q G E S (nth ls b) _ (λ v q. on 3 (i + 1) {ws = v ∷ []} refl e (also (held v q) none_left) slots_known)),
            (
              (λ e. one_q G E S vs _ (λ v q. fillable_q G E S (nth ls b) _ (on 4 (i + 1) {ws = []} refl e none_left (all_set slots_known b (some v) (only v q))))),
              (
                (λ e. local_q G E S (nth ls b) _ (λ v q. on 5 (i + 1) {ws = refer true (to_local id b (local_kind t (procedure_in ix p) b)) ∷ []} refl e (also (borrowed e) none_left) slots_known)),
                (
                  (λ e. one_q G E S vs _ (λ r q. number_at_q G E S (lead r) _ (λ z. tt) (λ x. on 6 (i + 1) {ws = num x ∷ []} refl e (also (number_known x) none_left) slots_known))),
                  (
                    (λ e. two_q G E S vs _ (λ v r q. number_q G E S v _ (λ x w. let s = both (num x) r (q ∙ ap (λ (u : Value). u ∷ r ∷ []) w) in number_at_q G E S (lead r) _ (λ z. tt) (λ y. written r x e s)))),
                    (
                      (λ e. one_q G E S vs _ (λ r q. record_at_q G E S (lead r) _ (λ z. tt) (λ c ws z. field_q G E S c (b / 8) (b % 8) (nth ws (b % 8)) _
                          (on 8 (i + 1) {ws = refer (writable r) (to_field c (b / 8) (b % 8)) ∷ []} refl e (also (λ w. inr (field-made e (top r q) (leads r z))) none_left) slots_known)
                          (λ c' y u. on 8 (i + 1) {ws = refer (writable r) (to_record c' y) ∷ []} refl e (also (λ w. inr (nested-made e (top r q) (leads r z) u)) none_left) slots_known)))),
                      (
                        (λ e. limit_q G E S (live_count rs) max_records _ _ (on 9 (i + 1) {ws = obj (length rs) b ∷ []} refl e (also (record_known (length rs) b) none_left) slots_known) (λ l. stops tt)),
                        (
                          (λ e. one_q G E S vs _ (λ v q. record_q G E S v _ (λ a c o. fields_at_q G E S (in_cell a (nth rs a)) _ (λ c ws z. let y = in_cell-here a (nth rs a) c ws z in on 10 (i + 1) {ws = ws} refl e (cells_known a y.0 ws y.1) slots_known)))),
                          (
                            (λ e. two_q G E S vs _ (λ v w q. record_q G E S v _ (λ r c o. number_q G E S w _ (λ a u. key_q G E S (find_key st b a) _ _
                                (λ z. limit_q G E S (length st) max_entries _ _ (on 11 (i + 1) {ws = []} refl e none_left slots_known) (λ l. stops tt)) (λ r' z. stops tt))))),
                            (
                              (λ e. one_q G E S vs _ (λ w q. number_q G E S w _ (λ a u. key_q G E S (find_key st b a) _ _ (λ z. stops tt) (λ r z. on 12 (i + 1) {ws = obj r b ∷ []} refl e (also (record_known r b) none_left) slots_known)))),
                              (
                                (λ e. one_q G E S vs _ (λ w q. number_q G E S w _ (λ a u. key_q G E S (find_key st b a) _ _ (λ z. stops tt)
                                    (λ r z. on 13 (i + 1) {ws = refer true (to_record r b) ∷ []} refl e (also (λ k. inr (entry-made e (only-number a w q u) z)) none_left) slots_known)))),
                                (
                                  (λ e. one_q G E S vs _ (λ w q. number_q G E S w _ (λ a u. key_q G E S (find_key st b a) _ _ (λ z. on 14 (i + 1) {ws = num 0 ∷ []} refl e (also (number_known 0) none_left) slots_known)
                                      (λ r z. on 14 (i + 1) {ws = num 1 ∷ []} refl e (also (number_known 1) none_left) slots_known)))),
                                  (
                                    (λ e. limit_q G E S (length fs + 1) max_frames _ _ (called e) (λ l. stops tt)),
                                    (
                                      (λ e. cond_q G E S (none_held ls) _ _ (under_q G E S under _ (λ u. back fs refl e u)) sticks),
                                      (
                                        (λ e. on 17 b {ws = []} refl e none_left slots_known),
                                        (
                                          (λ e. one_q G E S vs _ (λ v q. number_q G E S v _ (λ x u. on 18 _ {ws = []} refl e none_left slots_known))),
                                          (
                                            (λ e. two_q G E S vs _ (λ v w q. number_q G E S v _ (λ x u. number_q G E S w _ (λ y u'. given e (calculation b x y))))),
                                            (
                                              (λ e. one_q G E S vs _ (λ v q. reference_q G E S v _ (λ w r u. on 20 (i + 1) {ws = refer false r ∷ []} refl e (also (frozen e v w r q u) none_left) slots_known))),
                                              tt,
                                            ),
                                          ),
                                        ),
                                      ),
                                    ),
                                  ),
                                ),
                              ),
                            ),
                          ),
                        ),
                      ),
                    ),
                  ),
                ),
              ),
            ),
          ),
        ),
      ),
    )
        (row_at t row).a (omega arith)

  pub handed : instruction t ix p i ≡ row_at t row → OutQ G E S (step t ix (state (frame id p i ops ls ∷ fs) rs st n))
  unfolding act
  handed found = rw found (cond_q G E S (effect_at t ix p i ops).fit _ _ (go (taken (effect_at t ix p i ops).takes ops) refl) sticks)
    where
      go : (x : Taken) → taken (effect_at t ix p i ops).takes ops ≡ x
          → OutQ G E S (with_taken x λ (vs rest : List Value).
          get_or (actions (row_at t row).b (row_at t row).d (local_kind t (procedure_in ix p) (row_at t row).b) (local_count (procedure_in ix (row_at t row).b) - length vs) vs id p i rest ls fs rs st n) (row_at t row).a stuck)
      go missing e = sticks
      go (took vs under) e = acted vs under e

-- frames' identities stay apart
put-rising-go : (b : Bool) (n id p i : ℕ) (ops : List Value) (ls : List (Option Value)) (fs : List Frame) (f l : ℕ) (v : Value) → id < n → Rising id fs → Rising id (put_local fs f l v)
    → Rising n (cond b (frame id p i ops (set ls l (some v)) ∷ fs) (frame id p i ops ls ∷ put_local fs f l v))
put-rising-go true n id p i ops ls fs f l v a r ih = (a, r)
put-rising-go false n id p i ops ls fs f l v a r ih = (a, ih)

put-rising : (n : ℕ) (fs : List Frame) (f l : ℕ) (v : Value) → Rising n fs → Rising n (put_local fs f l v)
put-rising n [] f l v r = tt
put-rising n (frame id p i ops ls ∷ fs) f l v r = put-rising-go (eqb id f) n id p i ops ls fs f l v r.0 r.1 (put-rising id fs f l v r.1)

pub handed_rising : (t : List ℕ) (ix : Index) (row id p i : ℕ) (ops : List Value) (ls : List (Option Value)) (fs : List Frame) (n : ℕ) {fs' : List Frame} {n' : ℕ} → Handed t ix row id p i ops ls fs n fs' n'
    → Rising n (frame id p i ops ls ∷ fs) → Rising n' fs'
handed_rising t ix row id p i ops ls fs n (goes_on c d) r = r
handed_rising t ix row id p i ops ls fs n (writes {f} {l} {z} {rest} e s) r = put-rising n (frame id p (i + 1) rest ls ∷ fs) f l (num z) r
handed_rising t ix row id p i ops ls fs n (calls e s) r = (omega arith, r)
handed_rising t ix row id p i ops ls fs n (returns {id'} {p'} {i'} {ops'} {ls'} {rest} e s q) r = let z : Rising id (frame id' p' i' ops' ls' ∷ rest) = rw q at r.1 in (omega (arith, z.0, r.0), z.1)
