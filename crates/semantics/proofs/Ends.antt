-- The ends of the calls in a history: one for each call, and what there is after the last.
use Prim.Native.Nat.{ℕ, zero, suc, ◌+◌, ◌≤◌}
use mathlib.Core.Path.{◌≡◌, refl, ap, ◌∙◌}
use mathlib.Core.Bool.{Bool, true, false, cond}
use mathlib.Core.List.{List, [], ◌∷◌, ◌++◌}
use native.Mathlib.Omega.{arith}
use lib.ListN.{length}
use Rattle.table.specs.declared.index.Index.{Index}
use Rattle.table.specs.Index.{index_of}
use Rattle.table.specs.Rows.{row_count, row_at, is_kind}
use Rattle.acceptance.specs.Judged.{Judged}
use Rattle.semantics.specs.Machine.{State, Outcome, next, finished, stopped, stuck}
use Rattle.semantics.specs.Step.{step}
use Rattle.semantics.specs.Calls.{Call, call, call_row, arguments, calls_from, calls_of}
use Rattle.semantics.specs.History.{Base, Event, moment, ended, afterwards, Run, ran, after_moment, row_up, onward, go, begin, events_of, base_after, history, last_base}
use Rattle.semantics.specs.Callable.{GoodCall}
use Rattle.semantics.specs.Claim.{All, also}
use Rattle.semantics.proofs.Invariant.{BaseOk, call_run}

-- how many calls end
abbrev pub ends : List Event → ℕ
ends [] = 0
ends (moment s r o ∷ es) = ends es
ends (ended before s r o after ∷ es) = suc (ends es)

-- in two histories in a row, those of both
ends_append : (es es' : List Event) → ends (es ++ es') ≡ ends es + ends es'
ends_append [] es' = omega arith
ends_append (moment s r o ∷ es) es' = omega (arith, ends_append es es')
ends_append (ended before s r o after ∷ es) es' = omega (arith, ends_append es es')

-- what there is after two histories in a row
pub last_append : (es es' : List Event) (b : Base) → last_base (es ++ es') b ≡ last_base es' (last_base es b)
unfolding last_base
last_append [] es' b = refl
last_append (moment s r o ∷ es) es' b = last_append es es' b
last_append (ended before s r o after ∷ es) es' b = last_append es es' after

-- what there is at the end is what the last call left
pub last-left : (es : List Event) (before after b : Base) (s : State) (row : ℕ) (o : Outcome) → last_base (es ++ (ended before s row o after ∷ [])) b ≡ after
unfolding last_base
last-left es before after b s row o = last_append es (ended before s row o after ∷ []) b

-- where no call ends, nothing changes
pub last_quiet : (es : List Event) (b : Base) → ends es ≡ 0 → last_base es b ≡ b
unfolding last_base
last_quiet [] b e = refl
last_quiet (moment s r o ∷ es) b e = last_quiet es b e
last_quiet (ended before s r o after ∷ es) b e = absurd (omega arith)

-- the moments of a run: no call ends among them
abbrev pub Quiet : Run → Type 0
Quiet (ran es s r o) = ends es ≡ 0

-- a moment before a run
after_quiet : (s : State) (row : ℕ) (o : Outcome) (r : Run) → Quiet r → Quiet (after_moment (moment s row o) r)
after_quiet s row o (ran es s' r o') q = q

module _ (t : List ℕ) (ix : Index) where
  -- a step and what follows it
  onward_quiet : (s : State) (o : Outcome) (rest : State → Run) → ((s' : State) → Quiet (rest s')) → Quiet (onward t ix s o rest)
  onward_quiet s (next s') rest q = after_quiet s (row_up t ix s) (next s') (rest s') (q s')
  onward_quiet s (finished vs s') rest q = refl
  onward_quiet s (stopped k) rest q = refl
  onward_quiet s stuck rest q = refl

  -- all moments of a call
  pub go_quiet : (budget : ℕ) (s : State) → Quiet (go t ix budget s)
  unfolding go
  go_quiet zero s = refl
  go_quiet (suc budget) s = onward_quiet s (step t ix s) (go t ix budget) (go_quiet budget)

  -- a call ends once
  one_end : (b : Base) (r : Run) → Quiet r → ends (events_of t ix b r) ≡ 1
  one_end b (ran es s row o) q = omega (arith, q, ends_append es (ended b s row o (afterwards b s o) ∷ []))

  -- what there is after a call is what its end says
  last_end : (b : Base) (r : Run) → Quiet r → last_base (events_of t ix b r) b ≡ base_after t ix b r
  unfolding last_base
  last_end b (ran es s row o) q = last_append es (ended b s row o (afterwards b s o) ∷ []) b

  -- an end for each call
  pub history-ends : (cs : List Call) (b : Base) → ends (history t ix cs b) ≡ length cs
  unfolding history
  history-ends [] b = refl
  history-ends (call q budget args ∷ cs) b =
      let r = go t ix budget (begin t ix q args b) in
      omega (arith, ends_append (events_of t ix b r) (history t ix cs (base_after t ix b r)), one_end b r (go_quiet budget (begin t ix q args b)), history-ends cs (base_after t ix b r))

-- what there is at the end of a history is as it should be
pub history-last : (t : List ℕ) (J : Judged t (index_of t)) (cs : List Call) (b : Base) → All (GoodCall t (index_of t)) cs → BaseOk t J b → BaseOk t J (last_base (history t (index_of t) cs b) b)
unfolding history last_base
history-last t J [] b c v = v
history-last t J (call q budget args ∷ cs) b (also c a) v =
    let r = go t (index_of t) budget (begin t (index_of t) q args b) in
    let b' = base_after t (index_of t) b r in
    let e : last_base (events_of t (index_of t) b r ++ history t (index_of t) cs b') b ≡ last_base (history t (index_of t) cs b') b'
    = last_append (events_of t (index_of t) b r) (history t (index_of t) cs b') b ∙ ap (last_base (history t (index_of t) cs b')) (last_end t (index_of t) b r (go_quiet t (index_of t) budget (begin t (index_of t) q args b))) in
    rw e (history-last t J cs b' a (call_run t J q budget args b c v))

-- a row begins at most one call
calls-few : (l : List ℕ) (i left : ℕ) → length (calls_from l i left) ≤ left
unfolding calls_from
calls-few l i zero = omega arith
calls-few l i (suc left) = go (is_kind l call_row i) (calls-few l (i + 1) left)
  where
    go : (b : Bool) → length (calls_from l (i + 1) left) ≤ left
        → length (cond b (call (row_at l i).b (row_at l i).c (arguments l (i + 1) left) ∷ calls_from l (i + 1) left) (calls_from l (i + 1) left)) ≤ suc left
    go true h = omega arith
    go false h = omega arith

-- at most a call for each row
pub calls_in-rows : (l : List ℕ) → length (calls_of l) ≤ row_count l
unfolding calls_of
calls_in-rows l = calls-few l 0 (row_count l)
