-- Under a rule file no step enters a procedure by a forbidden pair (document 02, paper 7), said of an event of a list of calls. The entry from the list is no
-- pair.
use Rattle.std.specs.Prelude.{ℕ, ◌≡◌, List, [], ◌∷◌}
use Rattle.table.specs.Rows.{row_at}
use Rattle.table.specs.Index.{owner_at}
use Rattle.policy.specs.Allowed.{MayCall, IsCall, called_at}
use Rattle.semantics.specs.Machine.{Value, Frame, frame, State, state, Outcome, next, finished}
use Rattle.semantics.specs.History.{Event, moment, ended}
use Rattle.semantics.specs.Words.{module_of}

-- the frames of a state by identity and procedure, the running one first
abbrev pub stack : List Frame → List (ℕ × ℕ)
stack [] = []
stack (frame id p i ops ls ∷ fs) = (id, p) ∷ stack fs

abbrev pub stack_of : State → List (ℕ × ℕ)
stack_of (state fs rs st n) = stack fs

-- Where the step of a row leads from these frames: they stay; the running one returns; or the row is a Call of the running one's module, and a frame of the
-- procedure that it names is entered on top of them
pub data Leads (t : List ℕ) (row : ℕ) : List (ℕ × ℕ) → List (ℕ × ℕ) → Type 0 where
  stays : {fs : List (ℕ × ℕ)} → Leads t row fs fs
  leaves : {f : ℕ × ℕ} {fs : List (ℕ × ℕ)} → Leads t row (f ∷ fs) fs
  enters : {id p id' : ℕ} {fs : List (ℕ × ℕ)} → IsCall t row → owner_at t row ≡ module_of t p → Leads t row ((id, p) ∷ fs) ((id', (row_at t row).b) ∷ (id, p) ∷ fs)

-- of the file r and the table t
module _ (r t : List ℕ) where
  -- each frame that stands on another was entered from that one's module by a pair that may call
  pub data ByRule : List (ℕ × ℕ) → Type 0 where
    no_frame : ByRule []
    by-list : {f : ℕ × ℕ} → ByRule (f ∷ [])
    by_call : {id p id' p' : ℕ} {fs : List (ℕ × ℕ)} → MayCall r (module_of t p) (module_of t p') → ByRule ((id, p) ∷ fs) → ByRule ((id', p') ∷ (id, p) ∷ fs)

  -- A moment: its frames were so entered; a Call that comes up, done or stopped, is of a pair that may call; a step enters a procedure by such a Call only, and the
  -- frames after it were so entered; the last one leaves no frame
  pub record PermittedMoment (s : State) (row : ℕ) (o : Outcome) : Type 0 where
    pub before : ByRule (stack_of s)
    pub comes_up : IsCall t row → MayCall r (owner_at t row) (called_at t row)
    pub leads : (s' : State) → o ≡ next s' → Leads t row (stack_of s) (stack_of s')
    pub after : (s' : State) → o ≡ next s' → ByRule (stack_of s')
    pub none_left : (vs : List Value) (s' : State) → o ≡ finished vs s' → stack_of s' ≡ []

  -- at the end of a call the frames of its last moment were so entered
  abbrev pub Permitted : Event → Type 0
  Permitted (moment s row o) = PermittedMoment s row o
  Permitted (ended before last row o after) = ByRule (stack_of last)
