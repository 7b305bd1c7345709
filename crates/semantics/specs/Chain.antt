-- The events of a list of calls: every state on the way, each where the one before led.
use Rattle.std.specs.Prelude.{ℕ, suc, ◌≡◌, List, [], ◌∷◌, ◌++◌}
use Rattle.table.specs.declared.index.Index.{Index}
use Rattle.semantics.specs.Limits.{budget_spent}
use Rattle.semantics.specs.Machine.{State, Outcome, next, stopped}
use Rattle.semantics.specs.Step.{step}
use Rattle.semantics.specs.Calls.{Call, call}
use Rattle.semantics.specs.History.{Base, Event, moment, ended, row_up, begin, afterwards, nothing}
use Rattle.semantics.specs.Claim.{All, Safe}

-- in a table with this index
module _ (t : List ℕ) (ix : Index) where
  -- A call's moments from state s on, with so much budget: at each one `step` is done, the next one stands where it leads, and none is left out up to the
  -- last, in state z with outcome o. It stops with 31 where the budget is spent and nowhere else
  pub data Moments : ℕ → State → List Event → State → Outcome → Type 0 where
    spent : {s : State} → Moments 0 s (moment s (row_up t ix s) (stopped budget_spent) ∷ []) s (stopped budget_spent)
    steps : {budget : ℕ} {s s' z : State} {o : Outcome} {es : List Event} → step t ix s ≡ next s' → Moments budget s' es z o → Moments (suc budget) s (moment s (row_up t ix s) (next s') ∷ es) z o
    done : {budget : ℕ} {s : State} {o : Outcome} → step t ix s ≡ o → ((s' : State) → o ≡ next s' → ⊥) → (o ≡ stopped budget_spent → ⊥) → Moments (suc budget) s (moment s (row_up t ix s) o ∷ []) s o

  -- The calls of a list one after the other: each begins with its procedure, arguments and budget, from what the one before left
  pub data Chained : List Call → Base → List Event → Type 0 where
    no_call : {b : Base} → Chained [] b []
    one-call : {q budget : ℕ} {args : List ℕ} {cs : List Call} {b : Base} {es more : List Event} {z : State} {o : Outcome} → Moments budget (begin t ix q args b) es z o → Chained cs (afterwards b z o) more
        → Chained (call q budget args ∷ cs) b (es ++ (ended b z (row_up t ix z) o (afterwards b z o) ∷ more))

  -- Demand 3 of a list of calls: these are its events, from the empty store, and each is safe
  pub record Claimed (cs : List Call) (es : List Event) : Type 0 where
    pub chained : Chained cs nothing es
    pub safe : All (Safe t ix) es
