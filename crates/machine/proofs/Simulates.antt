-- The machine's instruction does what the rules' does.
use Prim.Native.Nat.{ℕ, zero, suc, ◌+◌, ◌/◌, ◌%◌, ◌<◌, ◌≤◌}
use mathlib.Core.Path.{◌≡◌, refl, ap, sym, ◌∙◌}
use mathlib.Core.Bool.{Bool, true, false, cond}
use mathlib.Core.List.{List, [], ◌∷◌, ◌++◌}
use mathlib.Core.Option.{Option, none, some}
use native.Mathlib.Omega.{arith}
use borrow.Author.Tests.{ltb-true, ltb-false, lt-ltb, le-ltb}
use lib.Dec.{eqb, ltb}
use lib.ListN.{length, get_or, set, take, drop, replicate, length-append, get_elem? as nth}
use Rattle.arithmetic.specs.Arithmetic.{Calculated, Value as Gives, TooLarge, BelowZero, Unknown, calculation}
use Rattle.semantics.specs.Machine as Rules
use Rattle.semantics.specs.Machine.{Ref, Value, num, obj, refer, writable, Cell, gone, here, Entry, entry, Frame, frame, state, Outcome, next, stopped, stuck, content, local_of, live_count, Target, a_number, in_cell, target, write_frames, write_records}
use Rattle.semantics.specs.Step.{pushed_on, Taken, missing, took, also_taken, taken, one, two, with_number, with_record, with_reference, number_at, record_at, fields_at, with_local, is_object, fillable, none_held, nothing_under, field_reference, under_key, start_locals, returned, push, push_and_set, push_with_records, push_with_store, lead, calculated, actions}
use Rattle.semantics.proofs.Changes.{clash}
use Rattle.semantics.proofs.Typing.{◌⊑◌, snoc_more, snoc_last}
use Rattle.state.specs.declared.Reference.{Reference}
use Rattle.state.specs.declared.Reference.TheVariants.{Local, Field, Record as Whole}
use Rattle.state.specs.declared.Operand.{Operand}
use Rattle.state.specs.declared.Operand.TheVariants.{Empty, Number, Record, Refer}
use Rattle.machine.specs.code.Machine as M
use Rattle.machine.specs.code.Machine.{MFrame, mframe, MRoom, mroom, MEntry, mentry, mstate, MOutcome, mnext, mstopped, mbroken, MTarget, top, second, back_to, topmost, held, free_room, room_of, as_number, as_record, as_reference, number_from, record_from, fields_from, field_of, under_entry, write_at, write_room, with_frames, on, on_with, leads_to, calculates, doings}
use Rattle.machine.proofs.Represents as Rep
use Rattle.machine.proofs.Represents.{Shows, empty, number, whole, to_aLocal, to_aField, to_aRecord, ShowsAll, no_more, and, ShowsLocals, ShowsFrames, no_frame, and_frame, ShowsStore, and_entry, ShowsRooms, SameOutcome, goes_on, ends, stops, never}
use Rattle.machine.proofs.Shows.{all_more, locals_more, frames_more, store_more, push_all, all_length, frames-length, held_shows, set_shows, field_shows, start_shows, write_shows}
use Rattle.machine.proofs.Targets.{Same, same_number, same_record, same_stale, anything, leads-same, room_live, rooms_written, rooms_freed, rooms_filled, free_used, SameKey, no_key, a_key, find-same, drop-same, store_length}

-- what is taken lies on top, in the order in which it was pushed
pub taken-split : (ks : List ℕ) (vs us rest : List Value) → taken ks vs ≡ took us rest → (vs ≡ pushed_on us rest) × (length us ≡ length ks)
taken-split [] vs us rest e = let z₁ : us ≡ [] = cc in let z₂ : vs ≡ rest = cc in (z₂ ∙ rw z₁ refl, rw z₁ refl)
taken-split (k ∷ ks) vs us rest e = go (taken ks vs) refl e (taken-split ks vs)
  where
    more : (ws ops : List Value) → also_taken k (took ws ops) ≡ took us rest → (vs ≡ pushed_on ws ops) × (length ws ≡ length ks) → (vs ≡ pushed_on us rest) × (length us ≡ suc (length ks))
    more ws [] e h = absurd (clash (cc))
    more ws (v ∷ ops) e h = at (eqb (Rules.value_kind v) k) e
      where
        at : (b : Bool) → cond b (took (v ∷ ws) ops) missing ≡ took us rest → (vs ≡ pushed_on us rest) × (length us ≡ suc (length ks))
        at true e = let z₁ : us ≡ v ∷ ws = cc in let z₂ : rest ≡ ops = cc in (h.0 ∙ rw (z₁, z₂) refl, rw z₁ (ap suc h.1))
        at false e = absurd (clash (cc))

    go : (x : Taken) → taken ks vs ≡ x → also_taken k x ≡ took us rest → ((us rest : List Value) → taken ks vs ≡ took us rest → (vs ≡ pushed_on us rest) × (length us ≡ length ks)) → (vs ≡ pushed_on us rest) × (length us ≡ suc (length ks))
    go missing q e ih = absurd (clash (cc))
    go (took ws ops) q e ih = more ws ops e (ih ws ops q)

back_snoc : (xs : List Operand) (x : Operand) (ys : List Operand) → back_to (xs ++ (x ∷ [])) ys ≡ x ∷ back_to xs ys
back_snoc [] x ys = refl
back_snoc (z ∷ xs) x ys = back_snoc xs x (z ∷ ys)

take_snoc : (k : ℕ) (ops : List Operand) (x : Operand) (xs : List Operand) → drop k ops ≡ x ∷ xs → (take (suc k) ops ≡ take k ops ++ (x ∷ [])) × (drop (suc k) ops ≡ xs)
take_snoc zero [] x xs e = absurd (clash (cc))
take_snoc zero (y ∷ ops) x xs e = (cc, cc)
take_snoc (suc k) [] x xs e = absurd (clash (cc))
take_snoc (suc k) (y ∷ ops) x xs e = let z = take_snoc k ops x xs e in (ap (λ (l : List Operand). y ∷ l) z.0, z.1)

module _ {R D : List ℕ} where
  split-go : (k : ℕ) (ops xs : List Operand) (us rest : List Value) (u : Value) → drop k ops ≡ xs → ShowsAll R D (topmost k ops) us → ShowsAll R D xs (u ∷ rest) → ShowsAll R D (topmost (suc k) ops) (u ∷ us) × ShowsAll R D (drop (suc k) ops) rest
  split-go k ops xs us rest u e a (and {x = y} {xs = ys} q b) = let z = take_snoc k ops y ys e in (rw (z.0, back_snoc (take k ops) y []) (and q a), rw z.1 b)

  pub split_shows : (us rest : List Value) (ops : List Operand) → ShowsAll R D ops (pushed_on us rest) → ShowsAll R D (topmost (length us) ops) us × ShowsAll R D (drop (length us) ops) rest
  split_shows [] rest ops a = (no_more, a)
  split_shows (u ∷ us) rest ops a = let h = split_shows us (u ∷ rest) ops a in split-go (length us) ops (drop (length us) ops) us rest u refl h.0 h.1

  -- the top operands by themselves
  top_shows : (u : Value) (ops : List Operand) → ShowsAll R D (topmost 1 ops) (u ∷ []) → Shows R D (top ops) (some u)
  top_shows u [] x' = elim x' [ ]
  top_shows u (x ∷ ops) (and s a) = s

  both_show : (u w : Value) (ops : List Operand) → ShowsAll R D (topmost 2 ops) (u ∷ w ∷ []) → Shows R D (second ops) (some u) × Shows R D (top ops) (some w)
  both_show u w [] a = absurd (none-there a)
    where
      none-there : ShowsAll R D [] (u ∷ w ∷ []) → ⊥
      none-there a = omega (arith, all_length a)
  both_show u w (x ∷ []) a = absurd (one-there a)
    where
      one-there : ShowsAll R D (x ∷ []) (u ∷ w ∷ []) → ⊥
      one-there a = omega (arith, all_length a)
  both_show u w (x ∷ y ∷ ops) (and s (and q a)) = (s, q)

-- An instruction that took the values us and left rest, in frame id of procedure p at i.
module _ (R D : List ℕ) (b d kind others id p i : ℕ) (ops ls : List Operand) (ms : List MFrame) (rooms : List (Option MRoom)) (es : List MEntry) (n : ℕ)
    (us rest : List Value) (os : List (Option Value)) (fs : List Frame) (rs : List Cell) (st : List Entry)
    (depth : nth D id ≡ some (length ms)) (tops : ShowsAll R D (topmost (length us) ops) us) (under : ShowsAll R D (drop (length us) ops) rest) (locals : ShowsLocals R D ls os)
    (below : ShowsFrames R D ms fs) (inside : ShowsRooms R D rooms rs) (store : ShowsStore R es st) (frames : length D ≡ n) where
  -- what the machine and the rules do, by opcode
  abbrev machine : ℕ → MOutcome
  machine a = get_or (doings b d kind (length us) others id p i ops ls ms rooms (length rs) es n) a mbroken

  abbrev ruled : ℕ → Outcome
  ruled a = get_or (actions b d kind others us id p i rest os fs rs st n) a stuck

  -- both go on with the same frame
  same-frame : {at : ℕ} {xs ks : List Operand} {vs : List Value} {ns : List (Option Value)} {rooms' : List (Option MRoom)} {rs' : List Cell} {es' : List MEntry} {st' : List Entry}
      → ShowsAll R D xs vs → ShowsLocals R D ks ns → ShowsRooms R D rooms' rs' → ShowsStore R es' st' → SameOutcome R D (mnext (mstate (mframe id p at xs ks) ms rooms' (length rs') es' n)) (next (state (frame id p at vs ns ∷ fs) rs' st' n))
  same-frame a l r s = goes_on R D (λ i u z. z) (λ i u z. z) (record { frames = and_frame depth a l below; rooms_show = r; records = refl; store = s; deep = frames; counted = refl })

  same-push : {xs : List Operand} {vs : List Value} → ShowsAll R D xs vs → SameOutcome R D (on b d kind (length us) others id p i ops ls ms rooms (length rs) es n xs) (push b d kind others us id p i rest os fs rs st n vs)
  same-push a = same-frame (push_all a under) locals inside store

  same-pop : SameOutcome R D (machine 0) (ruled 0)
  unfolding doings actions
  same-pop = same-push no_more

  same_load : SameOutcome R D (machine 1) (ruled 1)
  unfolding doings actions
  same_load = same-push (and number no_more)

  -- a full local
  local-go : (o : Option (Option Value)) (k : Operand → MOutcome) (f : Value → Outcome) (x : Operand) → Shows R D x (content o) → ((v : Value) → Shows R D x (some v) → SameOutcome R D (k x) (f v)) → SameOutcome R D (k x) (with_local o f)
  local-go none k f x s h = never
  local-go (some none) k f x s h = never
  local-go (some (some v)) k f x s h = h v s

  same_mv : SameOutcome R D (machine 2) (ruled 2)
  unfolding doings actions
  same_mv = local-go (nth os b) (λ (x : Operand). on_with b d kind (length us) others id p i ops ls ms rooms (length rs) es n (x ∷ []) Empty) _ (held (nth ls b)) (held_shows locals b)
      (λ v s. same-frame (and s under) (set_shows locals b empty) inside store)

  same_cp : SameOutcome R D (machine 3) (ruled 3)
  unfolding doings actions
  same_cp = local-go (nth os b) (λ (x : Operand). on b d kind (length us) others id p i ops ls ms rooms (length rs) es n (x ∷ [])) _ (held (nth ls b)) (held_shows locals b) (λ v s. same-push (and s no_more))

  same_borrow : SameOutcome R D (machine 5) (ruled 5)
  unfolding doings actions
  same_borrow = local-go (nth os b) (λ (x : Operand). on b d kind (length us) others id p i ops ls ms rooms (length rs) es n (Refer (Local id (length ms) b kind) ∷ [])) _ (held (nth ls b)) (held_shows locals b) (λ v s. same-push (and (to_aLocal depth) no_more))

  -- limits
  within : (c : Bool) (k : ℕ) (m : MOutcome) (o : Outcome) → (c ≡ true → SameOutcome R D m o) → SameOutcome R D (cond c m (mstopped k)) (cond c o (stopped k))
  within true k m o f = f refl
  within false k m o f = stops

  -- what an operand is
  number-go : {x : Operand} {v : Value} (k : ℕ → MOutcome) (f : ℕ → Outcome) → Shows R D x (some v) → ((m : ℕ) → SameOutcome R D (k m) (f m)) → SameOutcome R D (as_number x k) (with_number v f)
  number-go k f (number {n = m}) h = h m
  number-go k f (whole e) h = never
  number-go k f (to_aLocal e) h = never
  number-go k f (to_aField e) h = never
  number-go k f (to_aRecord e) h = never

  record_go : {x : Operand} {v : Value} (k : ℕ → ℕ → MOutcome) (f : ℕ → Outcome) → Shows R D x (some v) → ((s r : ℕ) → nth R s ≡ some r → SameOutcome R D (k s r) (f s)) → SameOutcome R D (as_record x k) (with_record v f)
  record_go k f (number {n = m}) h = never
  record_go k f (whole {s} {r} e) h = h s r e
  record_go k f (to_aLocal e) h = never
  record_go k f (to_aField e) h = never
  record_go k f (to_aRecord e) h = never

  target-go : {m : MTarget} {g : Target} (k : ℕ → MOutcome) (f : ℕ → Outcome) → Same R D m g → ((x : ℕ) → g ≡ a_number x → SameOutcome R D (k x) (f x)) → SameOutcome R D (number_from m k) (number_at g f)
  target-go k f (same_number {n = m}) h = h m refl
  target-go k f (same_record e a) h = never
  target-go k f same_stale h = stops
  target-go k f anything h = never

  -- the frames, with the running one
  standing : ShowsFrames R D (mframe id p i (drop (length us) ops) ls ∷ ms) (frame id p i rest os ∷ fs)
  standing = and_frame depth under locals below

  -- a number read or written through an operand that is a reference, or not
  through : {x : Operand} {v : Value} (k : Reference → ℕ → MOutcome) (f : ℕ → Outcome) → Shows R D x (some v)
      → ((r : Reference) → Shows R D (Refer r) (some v) → (y : ℕ) → target (frame id p i rest os ∷ fs) rs v ≡ a_number y → SameOutcome R D (k r y) (f y))
      → SameOutcome R D (as_reference x (λ (r : Reference). number_from (leads_to b d kind (length us) others id p i ops ls ms rooms (length rs) es n r) (k r))) (number_at (lead b d kind others us id p i rest os fs rs st n v) f)
  through k f number h = never
  through k f (whole e) h = never
  through k f (to_aLocal {w} {f = g} {d = e} {l} {k = c} q) h = target-go (k (Local g e l c)) f (leads-same inside standing (to_aLocal {w = w} {k = c} q)) (h (Local g e l c) (to_aLocal q))
  through k f (to_aField {w} {s} {r} {y} {j} q) h = target-go (k (Field s r y j)) f (leads-same inside standing (to_aField {w = w} {y = y} q)) (h (Field s r y j) (to_aField q))
  through k f (to_aRecord {w} {s} {r} {y} q) h = target-go (k (Whole s r y)) f (leads-same inside standing (to_aRecord {w = w} {y = y} q)) (h (Whole s r y) (to_aRecord q))

  -- one or two operands taken
  one-go : (ws : List Value) (f : Value → Outcome) (m : MOutcome) → ((u : Value) → ws ≡ u ∷ [] → SameOutcome R D m (f u)) → SameOutcome R D m (one ws f)
  one-go [] f m h = never
  one-go (u ∷ []) f m h = h u refl
  one-go (u ∷ w ∷ ws) f m h = never

  two-go : (ws : List Value) (f : Value → Value → Outcome) (m : MOutcome) → ((u w : Value) → ws ≡ u ∷ w ∷ [] → SameOutcome R D m (f u w)) → SameOutcome R D m (two ws f)
  two-go [] f m h = never
  two-go (u ∷ []) f m h = never
  two-go (u ∷ w ∷ []) f m h = h u w refl
  two-go (u ∷ w ∷ x ∷ ws) f m h = never

  the_top : (u : Value) → us ≡ u ∷ [] → Shows R D (top ops) (some u)
  the_top u q = top_shows u ops (rw q at tops)

  the_two : (u w : Value) → us ≡ u ∷ w ∷ [] → Shows R D (second ops) (some u) × Shows R D (top ops) (some w)
  the_two u w q = both_show u w ops (rw q at tops)

  same_read : SameOutcome R D (machine 6) (ruled 6)
  unfolding doings actions
  same_read = one-go us _ _ (λ u q. through _ _ (the_top u q) (λ r s y z. same-push (and number no_more)))

  same_st : SameOutcome R D (machine 4) (ruled 4)
  unfolding doings actions
  same_st = one-go us _ _ (λ u q. go u (nth os b) (the_top u q))
    where
      go : (u : Value) (o : Option (Option Value)) → Shows R D (top ops) (some u)
          → SameOutcome R D (on_with b d kind (length us) others id p i ops ls ms rooms (length rs) es n [] (top ops)) (fillable o (push_and_set b d kind others us id p i rest os fs rs st n [] (some u)))
      go u none s = never
      go u (some none) s = same-frame under (set_shows locals b s) inside store
      go u (some (some v)) s = at (is_object v)
        where
          at : (c : Bool) → SameOutcome R D (on_with b d kind (length us) others id p i ops ls ms rooms (length rs) es n [] (top ops)) (cond c stuck (push_and_set b d kind others us id p i rest os fs rs st n [] (some u)))
          at true = never
          at false = same-frame under (set_shows locals b s) inside store

  -- the state after a write
  same_write : SameOutcome R D (machine 7) (ruled 7)
  unfolding doings actions
  same_write = two-go us _ _ (λ u w q. let s = the_two u w q in number-go _ _ s.0 (λ x. through _ _ s.1 (λ r z y e. written x w r z y e)))
    where
      cell_of : (s r j y : ℕ) (c : Option Cell) → nth rs s ≡ c → nth R s ≡ some r → Rules.in_field (in_cell s c) j ≡ a_number y → (z : ℕ) × (vs : List Value) × (nth rs s ≡ some (here z vs))
      cell_of s r j y none q e f = absurd (clash (cc))
      cell_of s r j y (some (gone z)) q e f = absurd (clash (cc))
      cell_of s r j y (some (here z vs)) q e f = (z, vs, q)

      held_of : (o : Option Value) (y : ℕ) → Rules.in_local rs o ≡ a_number y → (v : Value) × (o ≡ some v)
      held_of none y e = absurd (clash (cc))
      held_of (some v) y e = (v, refl)

      again : {ms' : List MFrame} {fs' : List Frame} {rooms' : List (Option MRoom)} {rs' : List Cell} → (fs' ≡ [] → ⊥) → length rs' ≡ length rs → ShowsFrames R D ms' fs' → ShowsRooms R D rooms' rs' → SameOutcome R D (with_frames ms' rooms' (length rs) es n) (next (state fs' rs' st n))
      again c l no_frame r = absurd (c refl)
      again c l (and_frame e a k f) r = goes_on R D (λ i u z. z) (λ i u z. z) (record { frames = and_frame e a k f; rooms_show = r; records = sym l; store = store; deep = frames; counted = refl })

      some-frame : (c : Bool) (f g : Frame) (hs ks : List Frame) → cond c (f ∷ hs) (g ∷ ks) ≡ [] → ⊥
      some-frame true f g hs ks e = clash (cc)
      some-frame false f g hs ks e = clash (cc)

      written : (x : ℕ) (w : Value) (r : Reference) → Shows R D (Refer r) (some w) → (y : ℕ) → target (frame id p i rest os ∷ fs) rs w ≡ a_number y
          → SameOutcome R D (with_frames (write_at (mframe id p (i + 1) (drop (length us) ops) ls ∷ ms) r (Number x)) (write_room rooms r (Number x)) (length rs) es n) (next (state (write_frames (frame id p (i + 1) rest os ∷ fs) w (num x)) (write_records rs w (num x)) st n))
      written x w r (to_aLocal {f = g} {d = e} {l} q) y z = let v = held_of (local_of (frame id p i rest os ∷ fs) g l) y z in again (some-frame (eqb id g) _ _ _ _) refl (write_shows g e l x (and_frame depth under locals below) q v.1) inside
      written x w r (to_aField {s} {r = c} {y = k} {j} q) y z = let v = cell_of s c j y (nth rs s) refl q z in let h = rooms_written inside s c v.0 j x v.1 q v.2 in again (λ e. clash (cc)) (sym h.known ∙ inside.known) (and_frame depth under locals below) h
      written x w r (to_aRecord {s} {r = c} q) y z = absurd (no_number (nth rs s) z)
        where
          no_number : (o : Option Cell) → in_cell s o ≡ a_number y → ⊥
          no_number none e = clash (cc)
          no_number (some (gone z)) e = clash (cc)
          no_number (some (here z vs)) e = clash (cc)

  -- a record that a reference leads to
  record_target : {m : MTarget} {g : Target} (k : ℕ → ℕ → List Operand → MOutcome) (f : ℕ → List Value → Outcome) → Same R D m g
      → ((s r : ℕ) (xs : List Operand) (vs : List Value) → nth R s ≡ some r → ShowsAll R D xs vs → SameOutcome R D (k s r xs) (f s vs)) → SameOutcome R D (record_from m k) (record_at g f)
  record_target k f (same_number {n = m}) h = never
  record_target k f (same_record {s} {r} {xs} {vs} e a) h = h s r xs vs e a
  record_target k f same_stale h = stops
  record_target k f anything h = never

  same-field : SameOutcome R D (machine 8) (ruled 8)
  unfolding doings actions
  same-field = one-go us _ _ (λ u q. go (the_top u q))
    where
      field-go : (m : Bool) (s r y j : ℕ) {x : Operand} {o : Option Value} → nth R s ≡ some r → Shows R D x o
          → SameOutcome R D (field_of s r y j x λ (x : Operand). on b d kind (length us) others id p i ops ls ms rooms (length rs) es n (x ∷ [])) (field_reference s y j o λ (w : Ref). push b d kind others us id p i rest os fs rs st n (refer m w ∷ []))
      field-go m s r y j e empty = never
      field-go m s r y j e number = same-push (and (to_aField e) no_more)
      field-go m s r y j e (whole q) = same-push (and (to_aRecord q) no_more)
      field-go m s r y j e (to_aLocal q) = never
      field-go m s r y j e (to_aField q) = never
      field-go m s r y j e (to_aRecord q) = never

      found : {x : Reference} {u : Value} → Shows R D (Refer x) (some u)
          → SameOutcome R D (record_from (leads_to b d kind (length us) others id p i ops ls ms rooms (length rs) es n x) λ (a c : ℕ) (xs : List Operand). field_of a c (b / 8) (b % 8) (held (nth xs (b % 8))) λ (x : Operand). on b d kind (length us) others id p i ops ls ms rooms (length rs) es n (x ∷ []))
          (record_at (lead b d kind others us id p i rest os fs rs st n u) λ (a : ℕ) (fields : List Value). field_reference a (b / 8) (b % 8) (nth fields (b % 8)) λ (w : Ref). push b d kind others us id p i rest os fs rs st n (refer (writable u) w ∷ []))
      found {u = u} s = record_target _ _ (leads-same inside standing s) (λ a c xs vs e h. field-go (writable u) a c (b / 8) (b % 8) e (field_shows h (b % 8)))

      go : {x : Operand} {u : Value} → Shows R D x (some u)
          → SameOutcome R D (as_reference x (λ (r : Reference). record_from (leads_to b d kind (length us) others id p i ops ls ms rooms (length rs) es n r) λ (a c : ℕ) (xs : List Operand). field_of a c (b / 8) (b % 8) (held (nth xs (b % 8))) λ (x : Operand). on b d kind (length us) others id p i ops ls ms rooms (length rs) es n (x ∷ [])))
          (record_at (lead b d kind others us id p i rest os fs rs st n u) λ (a : ℕ) (fields : List Value). field_reference a (b / 8) (b % 8) (nth fields (b % 8)) λ (w : Ref). push b d kind others us id p i rest os fs rs st n (refer (writable u) w ∷ []))
      go number = never
      go (whole e) = never
      go (to_aLocal {w} {k = c} e) = found (to_aLocal {w = w} {k = c} e)
      go (to_aField {w} {y = c} e) = found (to_aField {w = w} {y = c} e)
      go (to_aRecord {w} {y = c} e) = found (to_aRecord {w = w} {y = c} e)

  -- the limit on records is the rooms
  rooms_left : ltb (free_room rooms) 128 ≡ ltb (live_count rs) 128
  rooms_left = go (ltb (free_room rooms) 128) refl
    where
      f : (free_room rooms < length rooms → Rep.used_count rooms < length rooms) × (Rep.used_count rooms < length rooms → free_room rooms < length rooms)
      f = let z = free_used rooms in (z.2, z.3)

      go : (c : Bool) → ltb (free_room rooms) 128 ≡ c → c ≡ ltb (live_count rs) 128
      go true e = sym (lt-ltb (live_count rs) 128 (rw (inside.size, inside.count) at (f.0 (rw inside.size (ltb-true (free_room rooms) 128 e)))))
      go false e = sym (le-ltb (live_count rs) 128 (not_lt (λ q. no_less (f.1 (rw (inside.size, inside.count) q)) (ltb-false (free_room rooms) 128 e))))
        where
          not_lt : {a : ℕ} → (a < 128 → ⊥) → 128 ≤ a
          not_lt {a} c = omega arith

          no_less : free_room rooms < length rooms → 128 ≤ free_room rooms → ⊥
          no_less l m = omega (arith, inside.size)

  same-pack : SameOutcome R D (machine 9) (ruled 9)
  unfolding doings actions
  same-pack = rw rooms_left (within (ltb (live_count rs) 128) 37 _ _ (λ lt. filled (ltb-true (free_room rooms) 128 (rooms_left ∙ lt))))
    where
      filled : free_room rooms < 128
          → SameOutcome R D (mnext (mstate (mframe id p (i + 1) (Record (length rs) (free_room rooms) b ∷ drop (length us) ops) ls) ms (set rooms (free_room rooms) (some (mroom (length rs) b (topmost (length us) ops)))) (length rs + 1) es n))
          (next (state (frame id p (i + 1) (obj (length rs) b ∷ rest) os ∷ fs) (rs ++ (here b us ∷ [])) st n))
      filled l =
          let more = snoc_more R (free_room rooms) in
          goes_on (R ++ (free_room rooms ∷ [])) D more (λ i u z. z) (record {
            frames = and_frame depth (and (whole (rw inside.known at (snoc_last R (free_room rooms)))) (all_more more (λ i u z. z) under)) (locals_more more (λ i u z. z) locals) (frames_more more (λ i u z. z) below);
            rooms_show = rooms_filled inside b (topmost (length us) ops) us l tops;
            records = sym (length-append rs (here b us ∷ []));
            store = store_more more store;
            deep = frames;
            counted = refl;
          })

  same-unpack : SameOutcome R D (machine 10) (ruled 10)
  unfolding doings actions
  same-unpack = one-go us _ _ (λ u q. record_go _ _ (the_top u q) (λ s r e. go s r (nth rs s) refl e))
    where
      go : (s r : ℕ) (c : Option Cell) → nth rs s ≡ c → nth R s ≡ some r
          → SameOutcome R D (fields_from (room_of (nth rooms r) s) λ (xs : List Operand). mnext (mstate (mframe id p (i + 1) (back_to xs (drop (length us) ops)) ls) ms (set rooms r none) (length rs) es n))
          (fields_at (in_cell s c) λ (fields : List Value). push_with_records b d kind others us id p i rest os fs rs st n fields (set rs s (gone b)))
      go s r none q e = never
      go s r (some (gone y)) q e = never
      go s r (some (here y vs)) q e =
          let l = room_live inside s r y vs e q in
          let h = rooms_freed inside s r y vs e q b in
          rw l.2 (goes_on R D (λ i u z. z) (λ i u z. z) (record { frames = and_frame depth (push_all l.3 under) locals below; rooms_show = h; records = sym inside.known ∙ h.known; store = store; deep = frames; counted = refl }))

  -- what is under a key
  key_go : {m : Option MEntry} {o : Option ℕ} (absent : MOutcome) (k : ℕ → ℕ → MOutcome) (gone' : Outcome) (f : ℕ → Outcome) → SameKey R m o → SameOutcome R D absent gone' → ((s r : ℕ) → nth R s ≡ some r → SameOutcome R D (k s r) (f s))
      → SameOutcome R D (under_entry m absent k) (under_key o gone' f)
  key_go absent k gone' f no_key x h = x
  key_go absent k gone' f (a_key {s = s} {r} e) x h = h s r e

  same_to : SameOutcome R D (machine 11) (ruled 11)
  unfolding doings actions
  same_to = two-go us _ _ (λ u w q. let s = the_two u w q in record_go _ _ s.0 (λ c r e. number-go _ _ s.1 (λ a. key_go _ _ _ _ (find-same store b a) (added a c r e) (λ s r e. stops))))
    where
      added : (a c r : ℕ) → nth R c ≡ some r
          → SameOutcome R D (cond (ltb (length es) 64) (mnext (mstate (mframe id p (i + 1) (drop (length us) ops) ls) ms rooms (length rs) (mentry b a c r ∷ es) n)) (mstopped 38))
          (cond (ltb (length st) 64) (push_with_store b d kind others us id p i rest os fs rs st n [] (entry b a c ∷ st)) (stopped 38))
      added a c r e = rw (store_length store) (within (ltb (length st) 64) 38 _ _ (λ lt. same-frame under locals inside (and_entry e store)))

  same_from : SameOutcome R D (machine 12) (ruled 12)
  unfolding doings actions
  same_from = one-go us _ _ (λ u q. number-go _ _ (the_top u q) (λ a. key_go _ _ _ _ (find-same store b a) stops (λ s r e. same-frame (and (whole e) under) locals inside (drop-same store b a))))

  same_global : SameOutcome R D (machine 13) (ruled 13)
  unfolding doings actions
  same_global = one-go us _ _ (λ u q. number-go _ _ (the_top u q) (λ a. key_go _ _ _ _ (find-same store b a) stops (λ s r e. same-push (and (to_aRecord e) no_more))))

  same-exists : SameOutcome R D (machine 14) (ruled 14)
  unfolding doings actions
  same-exists = one-go us _ _ (λ u q. number-go _ _ (the_top u q) (λ a. key_go _ _ _ _ (find-same store b a) (same-push (and number no_more)) (λ s r e. same-push (and number no_more))))

  same-call : SameOutcome R D (machine 15) (ruled 15)
  unfolding doings actions
  same-call = rw (frames-length below) (within (ltb (length fs + 1) 16) 36 _ _ (λ lt. called))
    where
      called : SameOutcome R D (mnext (mstate (mframe n b 0 [] (topmost (length us) ops ++ replicate others Empty)) (mframe id p i (drop (length us) ops) ls ∷ ms) rooms (length rs) es (n + 1)))
          (next (state (frame n b 0 [] (start_locals us others) ∷ frame id p i rest os ∷ fs) rs st (n + 1)))
      called =
          let later = snoc_more D (suc (length ms)) in
          goes_on R (D ++ (suc (length ms) ∷ [])) (λ i u z. z) later (record {
            frames = and_frame (rw frames at (snoc_last D (suc (length ms)))) no_more (locals_more (λ i u z. z) later (start_shows tops others)) (frames_more (λ i u z. z) later standing);
            rooms_show = deeper later;
            records = refl;
            store = store;
            deep = length-append D (suc (length ms) ∷ []) ∙ ap (λ (k : ℕ). k + 1) frames;
            counted = refl;
          })
        where
          deeper : {D' : List ℕ} → ◌⊑◌ D D' → ShowsRooms R D' rooms rs
          deeper g = record { size = inside.size; known = inside.known; count = inside.count; live = λ id y vs e. let l = inside.live id y vs e in (l.0, l.1, l.2, l.3, all_more (λ i u z. z) g l.4); used = inside.used }

  same-ret : SameOutcome R D (machine 16) (ruled 16)
  unfolding doings actions
  same-ret = held-go (none_held os)
    where
      arrives : {ks : List MFrame} {gs : List Frame} → ShowsFrames R D ks gs → SameOutcome R D (M.given ks (topmost (length us) ops) rooms (length rs) es n (mframe id p i (drop (length us) ops) ls)) (returned gs us rs st n)
      arrives no_frame = ends tops (record { rooms_show = inside; records = refl; store = store; deep = frames; counted = refl })
      arrives (and_frame e a l f) = goes_on R D (λ i u z. z) (λ i u z. z) (record { frames = and_frame e (push_all tops a) l f; rooms_show = inside; records = refl; store = store; deep = frames; counted = refl })

      under-go : (ws : List Value) → SameOutcome R D (M.given ms (topmost (length us) ops) rooms (length rs) es n (mframe id p i (drop (length us) ops) ls)) (nothing_under ws (returned fs us rs st n))
      under-go [] = arrives below
      under-go (w ∷ ws) = never

      held-go : (c : Bool) → SameOutcome R D (M.given ms (topmost (length us) ops) rooms (length rs) es n (mframe id p i (drop (length us) ops) ls)) (cond c (nothing_under rest (returned fs us rs st n)) stuck)
      held-go true = under-go rest
      held-go false = never

  same_branch : SameOutcome R D (machine 17) (ruled 17)
  unfolding doings actions
  same_branch = same-frame under locals inside store

  same_cond : SameOutcome R D (machine 18) (ruled 18)
  unfolding doings actions
  same_cond = one-go us _ _ (λ u q. number-go _ _ (the_top u q) (λ x. same-frame under locals inside store))

  same_op : SameOutcome R D (machine 19) (ruled 19)
  unfolding doings actions
  same_op = two-go us _ _ (λ u w q. let s = the_two u w q in number-go _ _ s.0 (λ x. number-go _ _ s.1 (λ y. go (calculation b x y))))
    where
      go : (c : Calculated) → SameOutcome R D (calculates b d kind (length us) others id p i ops ls ms rooms (length rs) es n c) (calculated b d kind others us id p i rest os fs rs st n c)
      go (Gives x) = same-push (and number no_more)
      go TooLarge = stops
      go BelowZero = stops
      go Unknown = never

  same-freeze : SameOutcome R D (machine 20) (ruled 20)
  unfolding doings actions
  same-freeze = one-go us _ _ (λ u q. go (the_top u q))
    where
      go : {x : Operand} {u : Value} → Shows R D x (some u)
          → SameOutcome R D (on b d kind (length us) others id p i ops ls ms rooms (length rs) es n (x ∷ [])) (with_reference u λ (r : Ref). push b d kind others us id p i rest os fs rs st n (refer false r ∷ []))
      go number = never
      go (whole e) = never
      go (to_aLocal e) = same-push (and (to_aLocal e) no_more)
      go (to_aField e) = same-push (and (to_aField e) no_more)
      go (to_aRecord e) = same-push (and (to_aRecord e) no_more)

  -- all opcodes
  pub same_doing : (a : ℕ) → SameOutcome R D (machine a) (ruled a)
  unfolding actions
  same_doing zero = same-pop
  same_doing (suc zero) = same_load
  same_doing (suc (suc zero)) = same_mv
  same_doing (suc (suc (suc zero))) = same_cp
  same_doing (suc (suc (suc (suc zero)))) = same_st
  same_doing (suc (suc (suc (suc (suc zero))))) = same_borrow
  same_doing (suc (suc (suc (suc (suc (suc zero)))))) = same_read
  same_doing (suc (suc (suc (suc (suc (suc (suc zero))))))) = same_write
  same_doing (suc (suc (suc (suc (suc (suc (suc (suc zero)))))))) = same-field
  same_doing (suc (suc (suc (suc (suc (suc (suc (suc (suc zero))))))))) = same-pack
  same_doing (suc (suc (suc (suc (suc (suc (suc (suc (suc (suc zero)))))))))) = same-unpack
  same_doing (suc (suc (suc (suc (suc (suc (suc (suc (suc (suc (suc zero))))))))))) = same_to
  same_doing (suc (suc (suc (suc (suc (suc (suc (suc (suc (suc (suc (suc zero)))))))))))) = same_from
  same_doing (suc (suc (suc (suc (suc (suc (suc (suc (suc (suc (suc (suc (suc zero))))))))))))) = same_global
  same_doing (suc (suc (suc (suc (suc (suc (suc (suc (suc (suc (suc (suc (suc (suc zero)))))))))))))) = same-exists
  same_doing (suc (suc (suc (suc (suc (suc (suc (suc (suc (suc (suc (suc (suc (suc (suc zero))))))))))))))) = same-call
  same_doing (suc (suc (suc (suc (suc (suc (suc (suc (suc (suc (suc (suc (suc (suc (suc (suc zero)))))))))))))))) = same-ret
  same_doing (suc (suc (suc (suc (suc (suc (suc (suc (suc (suc (suc (suc (suc (suc (suc (suc (suc zero))))))))))))))))) = same_branch
  same_doing (suc (suc (suc (suc (suc (suc (suc (suc (suc (suc (suc (suc (suc (suc (suc (suc (suc (suc zero)))))))))))))))))) = same_cond
  same_doing (suc (suc (suc (suc (suc (suc (suc (suc (suc (suc (suc (suc (suc (suc (suc (suc (suc (suc (suc zero))))))))))))))))))) = same_op
  same_doing (suc (suc (suc (suc (suc (suc (suc (suc (suc (suc (suc (suc (suc (suc (suc (suc (suc (suc (suc (suc zero)))))))))))))))))))) = same-freeze
  same_doing (suc (suc (suc (suc (suc (suc (suc (suc (suc (suc (suc (suc (suc (suc (suc (suc (suc (suc (suc (suc (suc a))))))))))))))))))))) = never
