-- A call of the run loop is a call of the machine on lists.
use Prim.Native.Nat.{ℕ, zero, suc, ◌+◌, ◌-◌, ◌≤◌, ◌<◌, ◌^◌}
use mathlib.Core.Path.{◌≡◌, refl, sym, subst, ◌∙◌}
use mathlib.Core.Bool.{Bool, true, false, cond, true≢false}
use mathlib.Core.List.{List}
use native.Mathlib.Omega.{arith}
use borrow.Author.Tests.{ltb-true, eqb-true, eqb-false, eq-eqb, ne_eqb}
use lib.Dec.{eqb}
use lib.ListN.{length}
use Rattle.table.specs.Index.{index_of}
use Rattle.declarations.specs.Program.{procedure_in}
use Rattle.semantics.proofs.Changes.{clash}
use Rattle.acceptance.specs.Judged.{Judged}
use Rattle.state.specs.declared.Operand.{Operand}
use Rattle.state.specs.declared.frames.State.{State}
use Rattle.state.specs.declared.stops.Stop.{Stop}
use Rattle.state.specs.declared.stops.Stop.TheVariants.{Done, BudgetSpent}
use Rattle.state.specs.code.Stops.{number_of as stop_number}
use Rattle.state.specs.code.Layout.{all_cells}
use Rattle.state.specs.code.Frames.{stop_of, dropped, ended_with}
use Rattle.machine.specs.code.Machine.{MState, mstate, MOutcome, mnext, mfinished, mstopped, mbroken, topmost}
use Rattle.machine.specs.code.Runs.{mstep, MEnd, mend, monward, mgo}
use Rattle.machine.specs.code.Lists.{MBase, mbase}
use Rattle.machine.specs.code.Views.{operands_in, rooms_in, entries_in, view_of}
use Rattle.frame.specs.code.Turning.{Turning, after, done, broken}
use Rattle.frame.proofs.Meaning.{outcome_of, Tidy, Stands, Kept}
use Rattle.step.proofs.Shapes.{Bounded, Shape, finishes, stays, goes}
use Rattle.interpreter.specs.code.Run.{onward, changes_memory, same_by, same_onward, row_of, step_at, run_from, same_from}
use Rattle.interpreter.proofs.Live.{Live, Numbers, LiveOutcome, live_step}
use Rattle.interpreter.proofs.Frames.{live_stands}
use Rattle.interpreter.proofs.Facts.{row, taken, returns}
use Rattle.interpreter.proofs.Steps.{step_shape, step_is, step_kept, step_untouched}
use Rattle.interpreter.proofs.Untouched.{Untouched, untouched_trans, ending}

-- what lasts from call to call
abbrev pub base_in : List Operand → State → MBase
base_in cs s = mbase (rooms_in cs) s.records (entries_in cs s.entries) s.frames

-- what holds of a state where so many instructions may still come
pub record Going (t : List ℕ) (left : ℕ) (cs : List Operand) (s : State) : Type 0 where
  pub stands : Stands cs s
  pub rooms_low : s.rooms ≤ 128
  pub records-few : s.records + left < 2 ^ 32
  pub frames-few : s.frames + left < 2 ^ 32
  pub live : Live t (view_of cs s)

-- the results of the running procedure
pub record Results (t : List ℕ) (cs : List Operand) (s : State) (xs : List Operand) : Type 0 where
  pub outermost : s.depth ≡ 0
  pub many : xs ≡ topmost ((procedure_in (index_of t) s.procedure).code - (procedure_in (index_of t) s.procedure).results) (operands_in cs s)
  pub few : (procedure_in (index_of t) s.procedure).code - (procedure_in (index_of t) s.procedure).results ≤ 4
  pub there : (procedure_in (index_of t) s.procedure).code - (procedure_in (index_of t) s.procedure).results ≤ s.height
  pub numbers : Numbers xs

-- the end of a call, against that of the machine on lists
abbrev pub EndOf : List ℕ → List Operand → State → MEnd → Type 0
EndOf t cs s (mend m (mfinished xs (mstate f fs rooms recs es n))) = (stop_of s ≡ done) × Results t cs s xs × (mbase rooms recs es n ≡ base_in cs s)
EndOf t cs s (mend m (mstopped k)) = (stop_of s ≡ k) × (k ≡ done → ⊥) × (k ≡ broken → ⊥) × (m ≡ view_of cs s)
EndOf t cs s (mend m (mnext v)) = ⊥
EndOf t cs s (mend m mbroken) = ⊥

-- what holds of the state and the cells after a call that had so much of its budget left
pub record After (left : ℕ) (first : State) (cs : List Operand) (s : State) : Type 0 where
  pub whole : length cs ≡ all_cells
  pub tidy : Tidy cs s
  pub rooms_low : s.rooms ≤ 128
  pub stored : s.entries ≤ 64
  pub records_more : s.records ≤ first.records + left
  pub frames_more : s.frames ≤ first.frames + left

abbrev pub Ends : List ℕ → ℕ → State → Turning → MEnd → Type 0
Ends t left first (after s cs) e = EndOf t cs s e × After left first cs s

-- what an outcome tells of the state after an instruction
module _ (k : ℕ) (cs : List Operand) (s : State) where
  by_next : (stop : ℕ) (a b c : Bool) (v : MState) → eqb stop 0 ≡ a → cond a (mnext (view_of cs s)) (cond b (mfinished (topmost k (operands_in cs s)) (view_of cs (dropped s k))) (cond c mbroken (mstopped stop))) ≡ mnext v → (stop ≡ 0) × (view_of cs s ≡ v)
  by_next stop true b c v e q = (eqb-true stop 0 e, cc)
  by_next stop false true c v e q = absurd (clash (cc))
  by_next stop false false true v e q = absurd (clash (cc))
  by_next stop false false false v e q = absurd (clash (cc))

  by_finished : (stop : ℕ) (a b c : Bool) (xs : List Operand) (v : MState) → eqb stop done ≡ b → cond a (mnext (view_of cs s)) (cond b (mfinished (topmost k (operands_in cs s)) (view_of cs (dropped s k))) (cond c mbroken (mstopped stop))) ≡ mfinished xs v
      → (stop ≡ done) × (topmost k (operands_in cs s) ≡ xs) × (view_of cs (dropped s k) ≡ v)
  by_finished stop true b c xs v e q = absurd (clash (cc))
  by_finished stop false true c xs v e q = (eqb-true stop done e, cc, cc)
  by_finished stop false false true xs v e q = absurd (clash (cc))
  by_finished stop false false false xs v e q = absurd (clash (cc))

  by_stopped : (stop : ℕ) (a b c : Bool) (j : ℕ) → eqb stop 0 ≡ a → eqb stop done ≡ b → eqb stop broken ≡ c → cond a (mnext (view_of cs s)) (cond b (mfinished (topmost k (operands_in cs s)) (view_of cs (dropped s k))) (cond c mbroken (mstopped stop))) ≡ mstopped j
      → (stop ≡ j) × (j ≡ 0 → ⊥) × (j ≡ done → ⊥) × (j ≡ broken → ⊥)
  by_stopped stop true b c j u e d q = absurd (clash (cc))
  by_stopped stop false true c j u e d q = absurd (clash (cc))
  by_stopped stop false false true j u e d q = absurd (clash (cc))
  by_stopped stop false false false j u e d q = let z : stop ≡ j = cc in (z, λ y. eqb-false stop 0 u (z ∙ y), λ y. eqb-false stop done e (z ∙ y), λ y. eqb-false stop broken d (z ∙ y))

  is-next : (v : MState) → outcome_of k (after s cs) ≡ mnext v → (stop_of s ≡ 0) × (view_of cs s ≡ v)
  is-next v = by_next (stop_of s) (eqb (stop_of s) 0) (eqb (stop_of s) done) (eqb (stop_of s) broken) v refl

  is-finished : (xs : List Operand) (v : MState) → outcome_of k (after s cs) ≡ mfinished xs v → (stop_of s ≡ done) × (topmost k (operands_in cs s) ≡ xs) × (view_of cs (dropped s k) ≡ v)
  is-finished xs v = by_finished (stop_of s) (eqb (stop_of s) 0) (eqb (stop_of s) done) (eqb (stop_of s) broken) xs v refl

  is-stopped : (j : ℕ) → outcome_of k (after s cs) ≡ mstopped j → (stop_of s ≡ j) × (j ≡ 0 → ⊥) × (j ≡ done → ⊥) × (j ≡ broken → ⊥)
  is-stopped j = by_stopped (stop_of s) (eqb (stop_of s) 0) (eqb (stop_of s) done) (eqb (stop_of s) broken) j refl refl refl

module _ (t : List ℕ) (J : Judged t (index_of t)) where
  -- a call that ends here
  ends-after : (left : ℕ) (k : Stop) (cs : List Operand) (s : State) → Going t left cs s → After left s cs (ended_with s k)
  ends-after left k cs s g = record { whole = g.stands.whole; tidy = tidied; rooms_low = g.rooms_low; stored = g.stands.stored; records_more = omega arith; frames_more = omega arith }
    where
      tidied : Tidy cs (ended_with s k)
      tidied = record { in_use = g.stands.tidy.in_use; unused = g.stands.tidy.unused; free_low = g.stands.tidy.free_low }

  module _ (left : ℕ) (cs : List Operand) (s : State) (g : Going t (suc left) cs s) where
    abbrev count : ℕ
    count = (procedure_in (index_of t) s.procedure).code - (procedure_in (index_of t) s.procedure).results

    -- the step goes on
    goes_on : (s' : State) (cs' : List Operand) → stop_of s' ≡ 0 → Bounded s s' → Kept cs s (after s' cs') → Live t (view_of cs' s') → Going t left cs' s'
    goes_on s' cs' e b k l = record {
      stands = live_stands t J cs' s' l (k.0 ∙ g.stands.whole) e (b.depth_low g.stands.shallow) (b.entries-low g.stands.stored) (k.1 g.stands.tidy);
      rooms_low = b.rooms_low g.rooms_low;
      records-few = omega (arith, k.2, g.records-few);
      frames-few = omega (arith, k.3, g.frames-few);
      live = l;
    }

    more : (s' : State) (cs' : List Operand) (turn : Turning) (e : MEnd) → Kept cs s (after s' cs') → Ends t left s' turn e → Ends t (suc left) s turn e
    more s' cs' (after s'' cs'') e k (a, r) = (a, record { whole = r.whole; tidy = r.tidy; rooms_low = r.rooms_low; stored = r.stored; records_more = omega (arith, k.2, r.records_more); frames_more = omega (arith, k.3, r.frames_more) })

    -- it is the Ret of the first frame
    finished-go : (b : Bool) → eqb (row t J cs s g.live).a 16 ≡ b → (turn : Turning) → Shape cs s b turn → (xs : List Operand) (v : MState) → outcome_of count turn ≡ mfinished xs v → Numbers xs
        → Ends t (suc left) s (onward turn (run_from t (index_of t) left)) (mend (view_of cs s) (mfinished xs v))
    finished-go b r turn (goes {s'} {cs'} o) xs v q n = let f = is-finished count cs' s' xs v q in absurd (omega (arith, f.0, o.runs_on, g.stands.running))
    finished-go b r turn (stays k z) xs v q n = let f = is-finished count cs (ended_with s k) xs v q in absurd (omega (arith, f.0, ltb-true done (stop_number k) z))
    finished-go true r turn (finishes o) xs (mstate f fs rooms recs es m) q n =
        let z = is-finished count cs (ended_with s Done) xs (mstate f fs rooms recs es m) q in
        let a = eqb-true _ 16 r in
        let w = returns t J cs s g.live a in
        ((refl, record { outermost = o; many = sym z.1; few = omega (arith, w.0, w.1); there = omega (arith, w.0, taken t J cs s g.live); numbers = n }, cc), ends-after (suc left) Done cs s g)

    -- it stops
    stopped-go : (b : Bool) (turn : Turning) → Shape cs s b turn → (j : ℕ) → outcome_of count turn ≡ mstopped j → Ends t (suc left) s (onward turn (run_from t (index_of t) left)) (mend (view_of cs s) (mstopped j))
    stopped-go b turn (goes {s'} {cs'} o) j q = let f = is-stopped count cs' s' j q in absurd (f.1 (omega (arith, f.0, o.runs_on, g.stands.running)))
    stopped-go b turn (stays k z) j q =
        let f = is-stopped count cs (ended_with s k) j q in
        let y : eqb (stop_number k) 0 ≡ false = ne_eqb (stop_number k) 0 (λ u. f.1 (sym f.0 ∙ u)) in
        rw y ((f.0, f.2, f.3, refl), ends-after (suc left) k cs s g)
    stopped-go true turn (finishes o) j q = absurd (clash (cc))

    next-go : (b : Bool) (turn : Turning) → Shape cs s b turn → Kept cs s turn → (v : MState) → outcome_of count turn ≡ mnext v → Live t v
        → ((cs' : List Operand) (s' : State) → Going t left cs' s' → Ends t left s' (run_from t (index_of t) left cs' s') (mgo t (index_of t) left (view_of cs' s')))
        → Ends t (suc left) s (onward turn (run_from t (index_of t) left)) (mgo t (index_of t) left v)
    next-go b turn (goes {s'} {cs'} o) k v q l rest =
        let f = is-next count cs' s' v q in
        rw (eq-eqb (stop_of s') 0 f.0) (more s' cs' (run_from t (index_of t) left cs' s') (mgo t (index_of t) left v) k (rw f.1 at (rest cs' s' (goes_on s' cs' f.0 o k (subst (Live t) (sym f.1) l)))))
    next-go b turn (stays j z) k v q l rest = absurd (omega (arith, (is-next count cs (ended_with s j) v q).0, ltb-true done (stop_number j) z))
    next-go true turn (finishes o) k v q l rest = absurd (clash (cc))

    step-ends : (turn : Turning) → Shape cs s (eqb (row t J cs s g.live).a 16) turn → Kept cs s turn → (o : MOutcome) → outcome_of count turn ≡ o → LiveOutcome t o
        → ((cs' : List Operand) (s' : State) → Going t left cs' s' → Ends t left s' (run_from t (index_of t) left cs' s') (mgo t (index_of t) left (view_of cs' s')))
        → Ends t (suc left) s (onward turn (run_from t (index_of t) left)) (monward t (index_of t) (view_of cs s) o (mgo t (index_of t) left))
    step-ends turn h k (mnext v) q l rest = next-go _ turn h k v q l rest
    step-ends turn h k (mfinished xs v) q l rest = finished-go _ refl turn h xs v q l
    step-ends turn h k (mstopped j) q l rest = stopped-go _ turn h j q
    step-ends turn h k mbroken q l rest = absurd l

  pub run_follows : (left : ℕ) (cs : List Operand) (s : State) → Going t left cs s → Ends t left s (run_from t (index_of t) left cs s) (mgo t (index_of t) left (view_of cs s))
  unfolding run_from mgo
  run_follows zero cs s g = ((refl, (λ y. omega arith), (λ y. omega arith), refl), ends-after zero BudgetSpent cs s g)
  run_follows (suc left) cs s g =
      let r : s.records < 4294967295 = omega (arith, g.records-few) in
      let f : s.frames < 4294967295 = omega (arith, g.frames-few) in
      step-ends left cs s g (step_at t (index_of t) cs s) (step_shape t J cs s g.stands g.live) (step_kept t J cs s g.stands g.live r f) (mstep t (index_of t) (view_of cs s)) (step_is t J cs s g.stands g.live r f) (live_step t J g.live) (run_follows left)

  not-changed : (c x : Bool) → cond c false x ≡ true → (c ≡ false) × (x ≡ true)
  not-changed true x e = absurd (true≢false (sym e))
  not-changed false x e = (refl, e)

  -- Where no instruction can change entries or rooms they are left as they were.
  module _ (left : ℕ) (cs : List Operand) (s : State) (g : Going t (suc left) cs s)
      (rest : (cs' : List Operand) (s' : State) → Going t left cs' s' → same_from t (index_of t) left cs' s' ≡ true → Untouched cs' s' (run_from t (index_of t) left cs' s')) where
    untouched_go : (b : Bool) (turn : Turning) → Shape cs s b turn → (changes_memory (row_of t (index_of t) s).a ≡ false → Untouched cs s turn) → Kept cs s turn → LiveOutcome t (outcome_of (count left cs s g) turn)
        → same_onward turn (λ (cs' : List Operand) (s' : State). same_by (same_from t (index_of t) left cs' s') (row_of t (index_of t) s).a) ≡ true → Untouched cs s (onward turn (run_from t (index_of t) left))
    untouched_go b turn (stays j z) u k l e = let y : eqb (stop_number j) 0 ≡ false = ne_eqb (stop_number j) 0 (λ q. omega (arith, ltb-true done (stop_number j) z)) in rw y (ending cs s j)
    untouched_go true turn (finishes o) u k l e = ending cs s Done
    untouched_go b turn (goes {s'} {cs'} o) u k l e =
        let q : stop_of s' ≡ 0 = o.runs_on ∙ g.stands.running in
        let y = eq-eqb (stop_of s') 0 q in
        let n = not-changed _ _ (rw y at e) in
        rw y (untouched_trans cs cs' s s' (run_from t (index_of t) left cs' s') (u n.0) (rest cs' s' (goes_on left cs s g s' cs' q o k (rw y at l)) n.1))

  pub run_untouched : (left : ℕ) (cs : List Operand) (s : State) → Going t left cs s → same_from t (index_of t) left cs s ≡ true → Untouched cs s (run_from t (index_of t) left cs s)
  unfolding run_from same_from
  run_untouched zero cs s g e = ending cs s BudgetSpent
  run_untouched (suc left) cs s g e =
      let r : s.records < 4294967295 = omega (arith, g.records-few) in
      let f : s.frames < 4294967295 = omega (arith, g.frames-few) in
      untouched_go left cs s g (run_untouched left) _ (step_at t (index_of t) cs s) (step_shape t J cs s g.stands g.live) (step_untouched t J cs s g.stands g.live) (step_kept t J cs s g.stands g.live r f)
      (subst (LiveOutcome t) (sym (step_is t J cs s g.stands g.live r f)) (live_step t J g.live)) e
