-- A call on the machine ends as the rules say.
use Prim.Native.Nat.{ℕ, zero, suc, ◌-◌}
use mathlib.Core.Path.{◌≡◌, refl, sym, ◌∙◌}
use mathlib.Core.Bool.{Bool, true, false, cond}
use mathlib.Core.List.{List, ◌∷◌}
use mathlib.Core.Option.{Option, some}
use lib.ListN.{length, get_or, get_elem? as nth}
use Rattle.table.specs.declared.Row.{Row}
use Rattle.table.specs.Index.{index_of}
use Rattle.declarations.specs.Program.{number, procedure_in, local_count, local_kind}
use Rattle.effects.specs.Effects.{Effect}
use Rattle.leaks.specs.Leaks.{guarded_marks}
use Rattle.acceptance.proofs.Regular.{step-takes}
use Rattle.acceptance.specs.Judged.{Judged}
use Rattle.semantics.specs.Machine.{Value, Cell, Entry, Frame, State, state, Outcome, finished, stopped, stuck}
use Rattle.semantics.specs.Step.{Taken, missing, took, taken, top_kind, with_taken, actions, instruction, effect_at, act, step}
use Rattle.semantics.specs.History.{Event, Run, ran, after_moment, onward, go, row_up}
use Rattle.semantics.specs.Claim.{All, IsNumber}
use Rattle.semantics.proofs.Typing.{◌⊑◌}
use Rattle.semantics.proofs.Running.{OutcomeOk}
use Rattle.semantics.proofs.Steps.{StateOk, DidAt, step_ok}
use Rattle.state.specs.declared.Operand.{Operand}
use Rattle.machine.specs.code.Machine.{MFrame, MRoom, MEntry, MState, mstate, MOutcome, mfinished, mstopped}
use Rattle.machine.proofs.Represents as Rep
use Rattle.machine.proofs.Represents.{ShowsAll, ShowsFrames, and_frame, Represents, BaseShown, SameOutcome, goes_on, ends, stops, never}
use Rattle.machine.specs.code.Runs.{takes_at, did, mstep, mrow, MEnd, mend, monward, mgo}
use Rattle.machine.proofs.Simulates.{taken-split, split_shows, same_doing}

-- how many operands are taken does not depend on the top operand
takes_same : (t : List ℕ) (p i : ℕ) (ops : List Value) → length (effect_at t (index_of t) p i ops).takes ≡ takes_at t (index_of t) p i
unfolding effect_at takes_at
takes_same t p i ops =
    sym (step-takes t (index_of t) (guarded_marks t) (procedure_in (index_of t) p) (top_kind ops) i) ∙ step-takes t (index_of t) (guarded_marks t) (procedure_in (index_of t) p) number i

-- the machine's instruction does what the rules' does
pub same_step : (t : List ℕ) {R D : List ℕ} {f : MFrame} {ms : List MFrame} {rooms : List (Option MRoom)} {recs : ℕ} {es : List MEntry} {n : ℕ} {fs : List Frame} {rs : List Cell} {st : List Entry} {m : ℕ}
    → Represents R D f ms rooms recs es n fs rs st m → SameOutcome R D (mstep t (index_of t) (mstate f ms rooms recs es n)) (step t (index_of t) (state fs rs st m))
unfolding did act
same_step t {R} {D} {rooms} {recs} {es} {n} {rs} {st} {m} r = go r.frames
  where
    acts : (id p i : ℕ) {ops ls : List Operand} {ms : List MFrame} {vs : List Value} {os : List (Option Value)} {fs : List Frame} (row : Row) (e : Effect) (k : ℕ) → length e.takes ≡ k
        → nth D id ≡ some (length ms) → ShowsAll R D ops vs → Rep.ShowsLocals R D ls os → ShowsFrames R D ms fs
        → SameOutcome R D (did t (index_of t) row k id p i ops ls ms rooms recs es n) (act t (index_of t) row e id p i vs os fs rs st m)
    acts id p i {ops} {ls} {ms} {vs} {os} {fs} row e k q d a l f = fit e.fit (taken e.takes vs) refl
      where
        fit : (c : Bool) (x : Taken) → taken e.takes vs ≡ x
            → SameOutcome R D (did t (index_of t) row k id p i ops ls ms rooms recs es n)
            (cond c (with_taken x λ (us rest : List Value). get_or (actions row.b row.d (local_kind t (procedure_in (index_of t) p) row.b) (local_count (procedure_in (index_of t) row.b) - length us) us id p i rest os fs rs st m) row.a stuck) stuck)
        fit false x z = never
        fit true missing z = never
        fit true (took us rest) z =
            let split = taken-split e.takes vs us rest z in
            let shown = split_shows us rest ops (rw split.0 at a) in
            let count : k ≡ length us = sym q ∙ sym split.1 in
            let made : recs ≡ length rs = r.records in
            let entered : n ≡ m = r.counted in
            rw (count, made, entered)
            (same_doing R D row.b row.d (local_kind t (procedure_in (index_of t) p) row.b) (local_count (procedure_in (index_of t) row.b) - length us) id p i ops ls ms rooms es m us rest os fs rs st d shown.0 shown.1 l f r.rooms_show r.store (r.deep ∙ r.counted) row.a)

    go : {f : MFrame} {ms : List MFrame} {fs : List Frame} → ShowsFrames R D (f ∷ ms) fs → SameOutcome R D (mstep t (index_of t) (mstate f ms rooms recs es n)) (step t (index_of t) (state fs rs st m))
    go (and_frame {id} {p} {i} {vs = vs} d a l f) = acts id p i (instruction t (index_of t) p i) (effect_at t (index_of t) p i vs) (takes_at t (index_of t) p i) (takes_same t p i vs) d a l f

-- the ends of two runs that are the same
pub data SameEnd (t : List ℕ) (R D : List ℕ) : MEnd → Run → Type 0 where
  end_stop : {f : MFrame} {ms : List MFrame} {rooms : List (Option MRoom)} {recs : ℕ} {es : List MEntry} {n : ℕ} {fs : List Frame} {rs : List Cell} {st : List Entry} {m k : ℕ} {events : List Event} {row : ℕ}
      → (R' D' : List ℕ) → ◌⊑◌ R R' → ◌⊑◌ D D' → Represents R' D' f ms rooms recs es n fs rs st m → row ≡ mrow t (index_of t) (mstate f ms rooms recs es n)
      → SameEnd t R D (mend (mstate f ms rooms recs es n) (mstopped k)) (ran events (state fs rs st m) row (stopped k))
  end-done : {s : MState} {xs : List Operand} {f : MFrame} {ms : List MFrame} {rooms : List (Option MRoom)} {recs : ℕ} {es : List MEntry} {n : ℕ} {vs : List Value} {fs : List Frame} {rs : List Cell} {st : List Entry} {m : ℕ} {events : List Event} {s' : State} {row : ℕ}
      → (R' D' : List ℕ) → ◌⊑◌ R R' → ◌⊑◌ D D' → ShowsAll R' D' xs vs → BaseShown R' D' rooms recs es n rs st m → All IsNumber vs
      → SameEnd t R D (mend s (mfinished xs (mstate f ms rooms recs es n))) (ran events s' row (finished vs (state fs rs st m)))

module _ (t : List ℕ) (judged : Judged t (index_of t)) where
  -- the row that comes up is the same
  row_same : {R D : List ℕ} {f : MFrame} {ms : List MFrame} {fs : List Frame} (rooms : List (Option MRoom)) (recs : ℕ) (es : List MEntry) (n : ℕ) (rs : List Cell) (st : List Entry) (m : ℕ) → ShowsFrames R D (f ∷ ms) fs
      → row_up t (index_of t) (state fs rs st m) ≡ mrow t (index_of t) (mstate f ms rooms recs es n)
  row_same rooms recs es n rs st m (and_frame d a l f) = refl

  -- a moment before does not change the end
  before : {R D R' D' : List ℕ} {x : MEnd} {r : Run} (e : Event) → ◌⊑◌ R R' → ◌⊑◌ D D' → SameEnd t R' D' x r → SameEnd t R D x (after_moment e r)
  before e g w (end_stop R'' D'' g' w' r q) = end_stop R'' D'' (λ i y z. g' i y (g i y z)) (λ i y z. w' i y (w i y z)) r q
  before e g w (end-done R'' D'' g' w' a b c) = end-done R'' D'' (λ i y z. g' i y (g i y z)) (λ i y z. w' i y (w i y z)) a b c

  -- the machine's run of a call ends as the rules'
  pub same_run : (budget : ℕ) {R D : List ℕ} {f : MFrame} {ms : List MFrame} {rooms : List (Option MRoom)} {recs : ℕ} {es : List MEntry} {n : ℕ} {fs : List Frame} {rs : List Cell} {st : List Entry} {m : ℕ}
      → Represents R D f ms rooms recs es n fs rs st m → StateOk t (state fs rs st m) → SameEnd t R D (mgo t (index_of t) budget (mstate f ms rooms recs es n)) (go t (index_of t) budget (state fs rs st m))
  unfolding mgo go
  same_run zero {R} {D} {rooms} {recs} {es} {n} {rs} {st} {m} r v = end_stop R D (λ i y z. z) (λ i y z. z) r (row_same rooms recs es n rs st m r.frames)
  same_run (suc budget) {R} {D} {f} {ms} {rooms} {recs} {es} {n} {fs} {rs} {st} {m} r v = onward-same (same_step t r) (step_ok t judged (state fs rs st m) v) (λ R' D' f' ms' rooms' recs' es' n' fs' rs' st' m' q u. same_run budget q u)
    where
      onward-same : {mo : MOutcome} {o : Outcome} → SameOutcome R D mo o → OutcomeOk t (DidAt t (state fs rs st m)) o
          → ((R' D' : List ℕ) (f' : MFrame) (ms' : List MFrame) (rooms' : List (Option MRoom)) (recs' : ℕ) (es' : List MEntry) (n' : ℕ) (fs' : List Frame) (rs' : List Cell) (st' : List Entry) (m' : ℕ)
          → Represents R' D' f' ms' rooms' recs' es' n' fs' rs' st' m' → StateOk t (state fs' rs' st' m') → SameEnd t R' D' (mgo t (index_of t) budget (mstate f' ms' rooms' recs' es' n')) (go t (index_of t) budget (state fs' rs' st' m')))
          → SameEnd t R D (monward t (index_of t) (mstate f ms rooms recs es n) mo (mgo t (index_of t) budget)) (onward t (index_of t) (state fs rs st m) o (go t (index_of t) budget))
      onward-same (goes_on R' D' g w q) k ih = before _ g w (ih R' D' _ _ _ _ _ _ _ _ _ _ q k.0)
      onward-same (ends a b) k ih = end-done R D (λ i y z. z) (λ i y z. z) a b k.2
      onward-same stops k ih = end_stop R D (λ i y z. z) (λ i y z. z) r (row_same rooms recs es n rs st m r.frames)
      onward-same never k ih = absurd k
