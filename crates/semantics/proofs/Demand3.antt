-- Demand 3, over every event of a list of calls.
use Prim.Native.Nat.{ℕ, ◌+◌, ◌<◌, ◌≤◌}
use mathlib.Core.Path.{◌≡◌, refl, ap, sym, ◌∙◌}
use mathlib.Core.Bool.{true}
use mathlib.Core.List.{List, [], ◌∷◌, map}
use mathlib.Core.Option.{Option}
use mathlib.Core.Logic.{inl, inr, ⊎_elim}
use native.Mathlib.Omega.{arith}
use lib.ListN.{length, drop}
use Rattle.table.specs.declared.Row.{Row}
use Rattle.table.specs.declared.index.Index.{Index}
use Rattle.table.specs.Verdicts.{Accepted}
use Rattle.table.specs.Format.{max_results, op_pack, op_unpack, op_move_to, op_move_from}
use Rattle.table.specs.Index.{index_of, owner_at}
use Rattle.table.specs.Rows.{row_at}
use Rattle.declarations.specs.Program.{procedure_in, instruction_in}
use Rattle.judging.specs.Judging.{judge_of}
use Rattle.acceptance.specs.Judged.{Bytes, Judged}
use Rattle.acceptance.proofs.Judged.{judged}
use Rattle.arithmetic.specs.Arithmetic.{Calculated, Value as Gives, TooLarge, BelowZero, Unknown, calculation}
use Rattle.semantics.specs.Machine.{to_field, Value, num, refer, Cell, Entry, Frame, frame, State, state, Outcome, next, finished, stopped, stuck}
use Rattle.semantics.specs.Step.{instruction, step}
use Rattle.semantics.specs.Calls.{Call, list_of, calls_of}
use Rattle.semantics.specs.History.{Base, base, Event, moment, ended, bury, restored, afterwards, nothing}
use Rattle.semantics.specs.Run.{history_of}
use Rattle.semantics.specs.Words.{module_of, operand, Exists, IsEntry}
use Rattle.semantics.specs.Callable.{GoodCall}
use Rattle.semantics.specs.Claim.{All, none_left, also, IsNumber, Rising, Owned, Sound, Ready, Kept, Proper, By, Freezes, Calculates, Unhindered, StopsAt, SafeOutcome, goes as goes_on, returns_last, stops as stops-there, Restored, finishes, restores, Between, Later, Safe, safe, ends as Ends-there}
use Rattle.semantics.specs.Chain.{Chained, Claimed}
use Rattle.semantics.proofs.Changes.{clash, grows, Limited}
use Rattle.semantics.proofs.Indexed.{module_in, declarer_in}
use Rattle.semantics.proofs.Sounds.{changed_ok, written_ok, fields_ok, made_ok, fresh_ok, broken_ok, entered_ok, left_ok, packs_ok, unpacks_ok, keyed_ok, unkeyed_ok, key_once, nth_app, head_of}
use Rattle.semantics.proofs.Typing.{CellOk, EntryOk}
use Rattle.semantics.proofs.Frames.{FrameOk, Stack, runs, type_of, Inv}
use Rattle.semantics.proofs.Running.{Rest, OutcomeOk}
use Rattle.semantics.proofs.Steps.{DidAt, runs_on, takes-there, writes_through, freeze_finds, op_finds, kinds-found}
use Rattle.semantics.proofs.Guests.{stack-kept}
use Rattle.semantics.proofs.Owning.{nested, plain, reached, shaped, entries-typed}
use Rattle.semantics.proofs.Worded.{types_are, procedures_are, type-is, procedure-is, declarer-is, module_is}
use Rattle.semantics.proofs.Placed.{place_is, end_is, row_is, kind-is, owner_is, guests_are}
use Rattle.semantics.proofs.Labels.{types_hold, links}
use Rattle.semantics.proofs.Outcomes.{goes, ends}
use Rattle.semantics.proofs.Stops.{calculation_comes, op_comes, stops_for}
use Rattle.semantics.proofs.Causes.{stop_caused}
use Rattle.semantics.proofs.Callable.{good-calls}
use Rattle.semantics.proofs.ReadOnly.{freezes}
use Rattle.semantics.proofs.Invariant.{used, used_at, Within, BaseOk, MomentOk, EndOk, EventOk, HandedAt, handed_at, outcome_ok, restored_ok, restored-length, buried_dead, chain_ok, nothing_ok}
use Rattle.semantics.proofs.Every.{chained}

pub all_head : {B : Type 0} {Q : B → Type 0} {x : B} {l : List B} → All Q (x ∷ l) → Q x
all_head (also q a) = q

pub all_map : {B : Type 0} {P Q : B → Type 0} → ((x : B) → P x → Q x) → {l : List B} → All P l → All Q l
all_map f none_left = none_left
all_map f (also {x} p a) = also (f x p) (all_map f a)

-- the cause of a stop
stop_of : {t : List ℕ} {ix : Index} {s : State} {row k : ℕ} → Safe t ix (moment s row (stopped k)) → StopsAt t row s k
stop_of (safe a (stops-there c)) = c

module _ (t : List ℕ) (J : Judged t (index_of t)) where
  -- records and entries
  sound : (T : List ℕ) (h : List Cell) → map type_of h ≡ T → All (CellOk t (index_of t) T) h → (fs : List Frame) (st : List Entry) → All (EntryOk T) st → Owned fs h st → Limited h st → Sound t fs h st
  sound T h types records fs st store owned few = record {
    owned = owned;
    nested = nested t J T h types records fs st owned;
    plain = plain t J T h types records;
    shaped = λ id y vs e. let z = shaped t J T h types records id y vs e in (rw (types_are t J.accepted) at z.0, rw (type-is t J.accepted y z.0) at z.1);
    entered = entries-typed t J T h types records fs st store owned;
    keys = λ y a id id'. key_once y a id id' st (few.keys y a);
  }

  between : (h : List Cell) (st : List Entry) → Rest t h st → Limited h st → Between t (index_of t) h st
  between h st v few = record { sound = sound v.T h v.types v.records [] st v.store v.owned few; reached = reached t J v.T h v.types v.records st v.owned }

  -- a running frame
  module _ {T W : List ℕ} {id p i : ℕ} {ops : List Value} {ls : List (Option Value)} (f : FrameOk t (index_of t) T W i [] [] id p ops ls) where
    few : p < 128
    few = (J.procedure p f.there).low

    abbrev here-row : ℕ
    here-row = (procedure_in (index_of t) p).code + i

    found : instruction_in t (index_of t) p i ≡ row_at t here-row
    found = row_is t J.accepted p f.there few i f.inside

    stands-in : owner_at t here-row ≡ module_of t p
    stands-in = owner_is t J.accepted p f.there few i f.inside ∙ module_is t J.accepted p f.there few

    ready : (s : State) → (step t (index_of t) s ≡ stuck → ⊥) → Ready t (index_of t) here-row p i ops s
    unfolding instruction
    ready s moves =
        let z = takes-there t J f in
        record {
          procedure = rw (procedures_are t J.accepted) at f.there;
          place = place_is t J.accepted p f.there few i f.inside;
          inside = end_is t J.accepted p f.there few i f.inside;
          kind = kind-is t J.accepted p f.there few i f.inside;
          found = found;
          body = procedure-is t J.accepted p f.there few;
          stands_in = stands-in;
          guests = guests_are t J.accepted p f.there few i f.inside;
          kinds = kinds-found t J f;
          fit = z.0;
          operands = z.1;
          moves = moves;
          through = λ e. writes_through t J f (inl (ap (λ (r : Row). r.a) found ∙ e));
        }

    -- the instruction works on a type of its own module
    by : (op y : ℕ) → 9 ≤ op → op ≤ 14 → ((instruction_in t (index_of t) p i).a ≡ op) × ((instruction_in t (index_of t) p i).b ≡ y) × (declarer_in (index_of t) y ≡ module_in (index_of t) p) → By t here-row op y
    by op y lo hi z =
        let there : (instruction_in t (index_of t) p i).b < (index_of t).types = (J.instruction p i f.there f.inside).type-named (omega (arith, z.0)) (omega (arith, z.0)) in
        let named : y < (index_of t).types = rw z.1 at there in
        record {
          opcode = ap (λ (r : Row). r.a) (sym found) ∙ z.0;
          operand = ap (λ (r : Row). r.b) (sym found) ∙ z.1;
          there = rw (types_are t J.accepted) at named;
          own = sym (declarer-is t J.accepted y named) ∙ z.2 ∙ sym (owner_is t J.accepted p f.there few i f.inside);
        }

    -- what it did to records and store
    proper : (n : ℕ) {fs : List Frame} {h h' : List Cell} {st st' : List Entry} → Kept t (frame id p i ops ls) → Sound t (frame id p i ops ls ∷ fs) h st → ((y a c : ℕ) → IsEntry st' y a c → Exists h' c y)
        → DidAt t (state (frame id p i ops ls ∷ fs) h st n) h' st' → Proper t here-row ops h st h' st'
    proper n {h} {h'} {st} {st'} own s typed' k =
        let op : (instruction_in t (index_of t) p i).a ≡ (row_at t here-row).a = ap (λ (r : Row). r.a) found in
        record {
          changed = λ id y j x x' g a b. ((λ d. let z = changed_ok k id y j x x' a b d in (x', (sym op ∙ z.0, z.1), d)), λ w d. w.2 (d ∙ written_ok k id y j x' w.0 w.1.1.0 b (op ∙ w.1.0) w.1.1.1));
          written = λ id y j x x' z a b w. written_ok k id y j x' z w.1.0 b (op ∙ w.0) w.1.1;
          own = λ id y j z g w. (own (refer true (to_field id y j)) (operand (head_of w.1.1)) (id, y, j, refl, g)).1 id y j refl ∙ sym stands-in;
          fields = λ id y vs vs' a b. ⊎_elim (λ z. inl z) (λ z. inr (z.0, z.1, z.2, (sym op ∙ z.3, z.4))) (fields_ok k id y vs vs' a b);
          made = λ id y a n. by op_pack y (omega arith) (omega arith) (made_ok k id y a n);
          broken = λ id y a n. by op_unpack y (omega arith) (omega arith) (broken_ok k id y a n);
          fresh = fresh_ok k;
          grows = grows k;
          published = λ id y e m n.
              let z = by op_move_to m.0 (omega arith) (omega arith) (entered_ok k m.0 m.1 id m.2 (λ q. n (m.0, m.1, q))) in
              let u : m.0 ≡ y = cc ((typed' m.0 m.1 id m.2).1, e.1) in rw u at z;
          withdrawn = λ id y e m n.
              let z = by op_move_from m.0 (omega arith) (omega arith) (left_ok k m.0 m.1 id m.2 (λ q. n (m.0, m.1, q))) in
              let u : m.0 ≡ y = cc ((s.entered m.0 m.1 id m.2).1, e.1) in rw u at z;
          entered = λ y a id m n. by op_move_to y (omega arith) (omega arith) (entered_ok k y a id m n);
          left = λ y a id m n. by op_move_from y (omega arith) (omega arith) (left_ok k y a id m n);
          packs = packs_ok k;
          unpacks = unpacks_ok k;
          keyed = keyed_ok k;
          unkeyed = unkeyed_ok k;
        }

    -- what Freeze does
    frozen_by : (fs fs' : List Frame) (h h' : List Cell) (st st' : List Entry) (n n' : ℕ) → next (state fs' h' st' n') ≡ step t (index_of t) (state (frame id p i ops ls ∷ fs) h st n)
        → Freezes t (index_of t) here-row id p i ops ls fs h st fs' h' st'
    unfolding instruction
    frozen_by fs fs' h h' st st' n n' q e =
        let a = ap (λ (r : Row). r.a) found ∙ e in
        let z = freeze_finds t J f a in
        let d = q ∙ ap (λ (o : List Value). step t (index_of t) (state (frame id p i o ls ∷ fs) h st n)) z.2 ∙ freezes t (index_of t) id p i z.1 ls fs h st n z.0 a z.3 in
        (z.0, z.1, z.2, cc (d), cc (d), cc (d))

    -- Op pushes what its operation gives
    calculated_by : (fs fs' : List Frame) (h h' : List Cell) (st st' : List Entry) (n n' : ℕ) → Rising n (frame id p i ops ls ∷ fs) → next (state fs' h' st' n') ≡ step t (index_of t) (state (frame id p i ops ls ∷ fs) h st n)
        → Calculates t (index_of t) here-row id p i ops ls fs h st fs' h' st'
    unfolding instruction
    calculated_by fs fs' h h' st st' n n' r q e =
        let z = takes-there t J f in
        let o = op_finds t J f (ap (λ (r : Row). r.a) found ∙ e) in
        go o.0 o.1 o.2 o.3 (calculation (row_at t here-row).b o.0 o.1) refl (q ∙ op_comes t (index_of t) id p i ops ls fs h st n z.0 r z.1.0 z.1.1 z.1.2 (ap (λ (r : Row). r.a) found ∙ e) o.3 _ (ap (λ (r : Row). calculation r.b o.0 o.1) found))
      where
        go : (x y : ℕ) (under : List Value) → ops ≡ num y ∷ num x ∷ under → (c : Calculated) → calculation (row_at t here-row).b x y ≡ c → next (state fs' h' st' n') ≡ calculation_comes id p i ls fs h st n under c
            → (x y z : ℕ) × (under : List Value) × (ops ≡ num y ∷ num x ∷ under) × (calculation (row_at t here-row).b x y ≡ Gives z) × (fs' ≡ frame id p (i + 1) (num z ∷ under) ls ∷ fs) × (h' ≡ h) × (st' ≡ st)
        go x y under s (Gives z) g w = (x, y, z, under, s, g, cc (w), cc (w), cc (w))
        go x y under s TooLarge g w = absurd (clash (cc))
        go x y under s BelowZero g w = absurd (clash (cc))
        go x y under s Unknown g w = absurd (clash (cc))

    -- a step that is done had no cause to stop
    unhindered : (fs : List Frame) (h : List Cell) (st : List Entry) (n : ℕ) {z : State} → Rising n (frame id p i ops ls ∷ fs) → next z ≡ step t (index_of t) (state (frame id p i ops ls ∷ fs) h st n) → Unhindered t here-row ops (frame id p i ops ls ∷ fs) h st
    unfolding instruction
    unhindered fs h st n r e k c =
        let z = takes-there t J f in
        let d = e ∙ stops_for t (index_of t) id p i ops ls fs h st n z.0 r z.1.0 z.1.1 z.1.2 (rw (← found) at c) in
        clash (cc (d))

    -- what comes of it
    outcome : {fs : List Frame} {h : List Cell} {st : List Entry} {n : ℕ} (o : Outcome) → Kept t (frame id p i ops ls) → Sound t (frame id p i ops ls ∷ fs) h st → Rising n (frame id p i ops ls ∷ fs)
        → OutcomeOk t (DidAt t (state (frame id p i ops ls ∷ fs) h st n)) o → HandedAt t J (state (frame id p i ops ls ∷ fs) h st n) o → o ≡ step t (index_of t) (state (frame id p i ops ls ∷ fs) h st n) → SafeOutcome t (index_of t) here-row id p i ops ls fs h st n o
    unfolding instruction
    outcome {fs} {h} {st} {n} (next (state fs' h' st' n')) own s r k (goes q) e =
        let v = k.0 in
        goes_on (unhindered fs h st n r e) (proper n {fs = fs} own s (entries-typed t J v.T h' v.types v.records fs' st' v.store v.owned) k.1) q.0 q.1 (frozen_by fs fs' h h' st st' n n' e) (calculated_by fs fs' h h' st st' n n' r e)
    outcome (finished vs z) own s r k (ends q) e = rw q.3 (returns_last q.0 q.1 q.2)
    outcome {fs} {h} {st} {n} (stopped j) own s r k q e = stops-there (inr (rw found at (stop_caused t (index_of t) id p i ops ls fs h st n j (sym e))))
    outcome stuck own s r k q e = absurd k

  -- a moment is safe
  handed_moment : (s : State) (row : ℕ) (o : Outcome) → MomentOk t J s row o → (o ≡ step t (index_of t) s) → HandedAt t J s o
  handed_moment s row o m e = rw e (handed_at t J s m.holds m.within)

  safe_outcome : {T W : List ℕ} {id p i : ℕ} {ops : List Value} {ls : List (Option Value)} {fs : List Frame} {h : List Cell} {st : List Entry} {n : ℕ} (f : FrameOk t (index_of t) T W i [] [] id p ops ls) (row : ℕ) (o : Outcome)
      → MomentOk t J (state (frame id p i ops ls ∷ fs) h st n) row o → Kept t (frame id p i ops ls) → Sound t (frame id p i ops ls ∷ fs) h st
      → SafeOutcome t (index_of t) ((procedure_in (index_of t) p).code + i) id p i ops ls fs h st n o
  safe_outcome f row o m own s =
      ⊎_elim (λ e. outcome f o own s m.within.1 (outcome_ok t J _ row o m) (handed_moment _ row o m e) e) (λ e. rw e (stops-there (inl refl))) m.did

  pub safe-moment : (s : State) (row : ℕ) (o : Outcome) → MomentOk t J s row o → Safe t (index_of t) (moment s row o)
  safe-moment (state fs h st n) row o m = go fs m.holds.frames m
    where
      v : Inv t (index_of t) fs h st n
      v = m.holds

      go : (gs : List Frame) → Stack t (index_of t) v.T v.W gs → MomentOk t J (state gs h st n) row o → Safe t (index_of t) (moment (state gs h st n) row o)
      go gs (runs {id} {p} {i} {ops} {ls} {fs = below} f u) k =
          let w = k.holds in
          let here-sound = sound w.T h w.types w.records gs st w.store w.owned k.within.0 in
          let own = stack-kept J J.accepted w.frames in
          rw k.at (safe (record {
            ready = ready f (state gs h st n) (runs_on t J (state gs h st n) w);
            kept = own;
            sound = here-sound;
            types = types_hold t J J.accepted w.T w.W h w.types w.records n w.serial gs st w.owned w.frames;
            linked = links t J J.accepted v.T v.W u;
            rising = k.within.1;
          }) (safe_outcome f row o k (all_head own) here-sound))

  -- so is where a call stopped
  stops_at : (s : State) (row k : ℕ) → MomentOk t J s row (stopped k) → StopsAt t row s k
  stops_at s row k m = stop_of (safe-moment s row (stopped k) m)

  -- a call that is done leaves no frame, and records, store and count as they were at its last moment
  abbrev emptied : State → State
  emptied (state fs h st n) = state [] h st n

  done_as : (s : State) (vs : List Value) (z : State) → HandedAt t J s (finished vs z) → z ≡ emptied s
  done_as (state [] h st n) vs z q = absurd q
  done_as (state (frame id p i ops ls ∷ fs) h st n) vs z (ends q) = q.3

  -- an end is safe
  end-go : (before : Base) (s : State) (row : ℕ) (o : Outcome) → BaseOk t J before → used before ≤ used_at s → ((s' : State) → o ≡ next s' → ⊥) → OutcomeOk t (DidAt t s) o → Within t J s
      → ((vs : List Value) (z : State) → o ≡ finished vs z → z ≡ emptied s) → ((k : ℕ) → o ≡ stopped k → StopsAt t row s k) → Safe t (index_of t) (ended before s row o (afterwards before s o))
  unfolding BaseOk
  end-go before s row (next z) v l f k w d c = absurd (f z refl)
  end-go (base h₀ st₀ n₀) (state fs h st n) row (finished vs z) v l f k w d c =
      let e : z ≡ state [] h st n = d vs z refl in
      let u : Rest t h st × DidAt t (state fs h st n) h st × All IsNumber vs × (length vs ≤ max_results) = rw e at k in
      let after : Later t (index_of t) (state fs h st n) (base h st n) = (omega arith, omega arith, between h st u.0 w.0) in
      rw e (Ends-there {s = state fs h st n} (finishes u.2 u.3) after)
  end-go (base h₀ st₀ n₀) (state fs h st n) row (stopped j) v l f k w d c =
      let back : Restored t (index_of t) (base h₀ st₀ n₀) (base (restored h₀ h) st₀ n) = (refl, (λ id c e. nth_app h₀ (map bury (drop (length h₀) h)) id c e), buried_dead h₀ (drop (length h₀) h)) in
      let after : Later t (index_of t) (state fs h st n) (base (restored h₀ h) st₀ n) = (restored-length h₀ h l, omega arith, let r = restored_ok t J h₀ h st₀ v.0 v.1 in between (restored h₀ h) st₀ r.0 r.1) in
      Ends-there (restores (c j refl) back) after
  end-go before s row stuck v l f k w d c = absurd k

  safe-ended : (before : Base) (s : State) (row : ℕ) (o : Outcome) (after : Base) → EndOk t J before s row o after → Safe t (index_of t) (ended before s row o after)
  safe-ended before s row o after m = rw m.leaves (end-go before s row o m.began m.longer m.over (outcome_ok t J s row o m.last) m.last.within (λ vs z e. done_as s vs z (done_at vs z e)) (λ k e. stops_at s row k (rw e at m.last)))
    where
      done_at : (vs : List Value) (z : State) → o ≡ finished vs z → HandedAt t J s (finished vs z)
      done_at vs z e = rw e at (⊎_elim (λ q. handed_moment s row o m.last q) (λ q. absurd (clash (cc (q, e)))) m.last.did)

  safe_event : (e : Event) → EventOk t J e → Safe t (index_of t) e
  safe_event (moment s row o) m = safe-moment s row o m
  safe_event (ended before s row o after) m = safe-ended before s row o after m

-- Demand 3 for every list of good calls over an accepted table: whatever events are chained are safe, and there are such
pub demand3_calls : (t : List ℕ) (n : ℕ) → Bytes t → judge_of t ≡ Accepted n → (cs : List Call) → All (GoodCall t (index_of t)) cs → (es : List Event) → Chained t (index_of t) cs nothing es → Claimed t (index_of t) cs es
demand3_calls t n bt e cs good es c =
    let J = judged t n bt e in
    record { chained = c; safe = all_map (safe_event t J) (chain_ok t J c good (nothing_ok t J)) }

-- and for the bytes of a list
pub demand3 : (t l : List ℕ) (n k : ℕ) → Bytes t → Bytes l → judge_of t ≡ Accepted n → list_of t (index_of t) l ≡ Accepted k → Claimed t (index_of t) (calls_of l) (history_of t l)
unfolding history_of
demand3 t l n k bt bl e d = demand3_calls t n bt e (calls_of l) (good-calls t (index_of t) l k bl d) (history_of t l) (chained t (index_of t) (calls_of l) nothing)
