-- Wrong entries are not permitted: for each clause of the claim about entered frames, the wrong machines that it shuts out.
use Prim.Native.Nat.{ℕ, suc, ◌≤◌}
use mathlib.Core.Path.{◌≡◌, refl, ap}
use mathlib.Core.List.{List, ◌∷◌}
use mathlib.Core.Logic.{◌≢◌}
use mathlib.Core.Option.{Option}
use native.Mathlib.Omega.{arith}
use lib.ListN.{length}
use Rattle.table.specs.Index.{owner_at}
use Rattle.policy.specs.Allowed.{MayCall, IsCall, called_at}
use Rattle.semantics.specs.Machine.{Value, Cell, Entry, Frame, frame, State, state, Outcome, next, finished}
use Rattle.semantics.specs.History.{moment}
use Rattle.semantics.specs.Words.{module_of}
use Rattle.semantics.specs.Permitted.{stack, stack_of, Leads, stays, leaves, enters, ByRule, by_call, Permitted}

-- frames with the same identities and procedures are as many
same_length : {fs gs : List (ℕ × ℕ)} → fs ≡ gs → length fs ≡ length gs
same_length e = ap length e

module _ (r t : List ℕ) where
  -- the upper two of frames that were entered by rule
  above : {id p id' q : ℕ} {fs : List (ℕ × ℕ)} → ByRule r t ((id', q) ∷ (id, p) ∷ fs) → MayCall r (module_of t p) (module_of t q)
  above (by_call m e) = m

  -- A moment: frame id of procedure p runs over the frames fs, and `row` is told
  module _ (row id p i : ℕ) (ops : List Value) (ls : List (Option Value)) (fs : List Frame) (rs : List Cell) (st : List Entry) (n : ℕ) where
    abbrev pub PermittedWith : Outcome → Type 0
    PermittedWith o = Permitted r t (moment (state (frame id p i ops ls ∷ fs) rs st n) row o)

    -- the step enters a procedure that the running one's module may not call, its own module too
    pub not_forbidden : (id' q i' j : ℕ) (ops' ops'' : List Value) (ls' ls'' : List (Option Value)) (gs : List Frame) (rs' : List Cell) (st' : List Entry) (n' : ℕ) → ¬ (MayCall r (module_of t p) (module_of t q))
        → PermittedWith (next (state (frame id' q i' ops' ls' ∷ frame id p j ops'' ls'' ∷ gs) rs' st' n')) → ⊥
    not_forbidden id' q i' j ops' ops'' ls' ls'' gs rs' st' n' f m = f (above (m.after _ refl))

    -- a frame that waits stands on one whose module may not call its module
    pub not-waiting : {o : Outcome} (id' q j : ℕ) (ops' : List Value) (ls' : List (Option Value)) (gs : List Frame) → fs ≡ frame id' q j ops' ls' ∷ gs → ¬ (MayCall r (module_of t q) (module_of t p)) → PermittedWith o → ⊥
    not-waiting id' q j ops' ls' gs e f m = f (above (rw e at m.before))

    -- a Call that the file forbids comes up, and is done or stops
    pub not_coming_up : {o : Outcome} → IsCall t row → ¬ (MayCall r (owner_at t row) (called_at t row)) → PermittedWith o → ⊥
    not_coming_up c f m = f (m.comes_up c)

    -- more frames after a row that is no Call
    pub not_without_call : (s' : State) → ¬ (IsCall t row) → suc (length (stack (frame id p i ops ls ∷ fs))) ≤ length (stack_of s') → PermittedWith (next s') → ⊥
    not_without_call s' other h m = go (m.leads s' refl) h
      where
        go : {gs : List (ℕ × ℕ)} → Leads t row ((id, p) ∷ stack fs) gs → suc (suc (length (stack fs))) ≤ length gs → ⊥
        go stays h = omega arith
        go leaves h = omega arith
        go (enters c o) h = other c

    -- the frames under the running one stay, and it is another one, or of another procedure
    pub not_another : (id' q j : ℕ) (ops' : List Value) (ls' : List (Option Value)) (rs' : List Cell) (st' : List Entry) (n' : ℕ) → ◌≢◌ {A = ℕ × ℕ} (id', q) (id, p) → PermittedWith (next (state (frame id' q j ops' ls' ∷ fs) rs' st' n')) → ⊥
    not_another id' q j ops' ls' rs' st' n' f m = go (m.leads _ refl) refl
      where
        go : {gs : List (ℕ × ℕ)} → Leads t row ((id, p) ∷ stack fs) gs → gs ≡ (id', q) ∷ stack fs → ⊥
        go stays e = f (cc)
        go leaves e = omega (arith, same_length e)
        go (enters c o) e = omega (arith, same_length e)

    -- a call that is done leaves a frame
    pub not_left : (vs : List Value) (f : Frame) (gs : List Frame) (rs' : List Cell) (st' : List Entry) (n' : ℕ) → PermittedWith (finished vs (state (f ∷ gs) rs' st' n')) → ⊥
    not_left vs (frame id' q j ops' ls') gs rs' st' n' m = omega (arith, same_length (m.none_left vs _ refl))
