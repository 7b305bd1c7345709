-- A list of calls: each call with its budget, restoring after a stop, and the one history of it all (document 01, "Running").
use Rattle.std.specs.Prelude.{ℕ, zero, suc, ◌+◌, ◌-◌, List, [], ◌∷◌, ◌++◌, map, length, drop}
use Rattle.table.specs.declared.index.Index.{Index}
use Rattle.declarations.specs.Program.{procedure_in, local_count}
use Rattle.semantics.specs.Limits.{budget_spent}
use Rattle.semantics.specs.Machine.{num, Cell, gone, here, Entry, frame, State, state, Outcome, next, finished, stopped, stuck}
use Rattle.semantics.specs.Step.{start_locals, step}
use Rattle.semantics.specs.Calls.{Call, call}

-- what lasts from call to call: the records, the store, and how many frames there have been
pub data Base : Type 0 where
  base : List Cell → List Entry → ℕ → Base

-- Every moment of every call: the state, the row of the instruction that came up, and what it did or why it stopped. The end of every call: what
-- there was at its beginning, its last moment's state, row and outcome, and what there is after it.
pub data Event : Type 0 where
  moment : State → (row : ℕ) → Outcome → Event
  ended : (before : Base) (last : State) (row : ℕ) → Outcome → (after : Base) → Event

-- Restoring: the records of the call's beginning as they were then; those made since are gone
abbrev pub bury : Cell → Cell
bury (gone y) = gone y
bury (here y vs) = gone y

abbrev pub restored : List Cell → List Cell → List Cell
restored rs rs' = rs ++ map bury (drop (length rs) rs')

-- what there is after a call that began with a base and had this last state and outcome: identities are never used again
abbrev pub afterwards : Base → State → Outcome → Base
afterwards (base rs st n) (state fs rs' st' n') (stopped k) = base (restored rs rs') st n'
afterwards (base rs st n) (state fs rs' st' n') (next s) = base (restored rs rs') st n'
afterwards (base rs st n) (state fs rs' st' n') stuck = base (restored rs rs') st n'
afterwards b s (finished vs (state fs rs' st' n')) = base rs' st' n'

-- the moments of a call, and its last state, row and outcome
pub data Run : Type 0 where
  ran : List Event → State → (row : ℕ) → Outcome → Run

abbrev pub after_moment : Event → Run → Run
after_moment e (ran es s r o) = ran (e ∷ es) s r o

-- in a table with this index
module _ (t : List ℕ) (ix : Index) where
  -- the row of the instruction that comes up
  abbrev pub row_up : State → ℕ
  row_up (state [] rs st n) = 0
  row_up (state (frame id p i ops ls ∷ fs) rs st n) = (procedure_in ix p).code + i

  abbrev pub onward : State → Outcome → (State → Run) → Run
  onward s (next s') rest = after_moment (moment s (row_up s) (next s')) (rest s')
  onward s (finished vs s') rest = ran (moment s (row_up s) (finished vs s') ∷ []) s (row_up s) (finished vs s')
  onward s (stopped k) rest = ran (moment s (row_up s) (stopped k) ∷ []) s (row_up s) (stopped k)
  onward s stuck rest = ran (moment s (row_up s) stuck ∷ []) s (row_up s) stuck

  -- a call's moments within a budget of instructions; 31 comes before every other stop
  unfoldable pub go : ℕ → State → Run
  go zero s = ran (moment s (row_up s) (stopped budget_spent) ∷ []) s (row_up s) (stopped budget_spent)
  go (suc budget) s = onward s (step t ix s) (go budget)

  -- the state in which a call of procedure q begins
  abbrev pub begin : ℕ → List ℕ → Base → State
  begin q args (base rs st n) = state (frame n q 0 [] (start_locals (map num args) (local_count (procedure_in ix q) - length args)) ∷ []) rs st (n + 1)

  abbrev pub events_of : Base → Run → List Event
  events_of b (ran es s r o) = es ++ (ended b s r o (afterwards b s o) ∷ [])

  abbrev pub base_after : Base → Run → Base
  base_after b (ran es s r o) = afterwards b s o

  -- the one history of a list of calls
  unfoldable pub history : List Call → Base → List Event
  history [] b = []
  history (call q budget args ∷ cs) b =
      let r = go budget (begin q args b) in
      events_of b r ++ history cs (base_after b r)

-- the store starts empty
abbrev pub nothing : Base
nothing = base [] [] 0

-- what there is at the end of a history that began with a base
unfoldable pub last_base : List Event → Base → Base
last_base [] b = b
last_base (moment s r o ∷ es) b = last_base es b
last_base (ended before s r o after ∷ es) b = last_base es after
