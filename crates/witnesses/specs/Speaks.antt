-- What demand 3 speaks of does happen: said of the history of a list of calls over an accepted table, in the words of demand 3, with such a table and list.
use Rattle.std.specs.Prelude.{ℕ, ◌+◌, ◌≡◌, Bool, true, false, List, [], ◌∷◌, ◌++◌, ◌≢◌}
use Rattle.std.proofs.Math.Option.{Option, some}
use Rattle.std.proofs.Math.ListN.{get_elem? as nth}
use Rattle.table.specs.Verdicts.{Accepted}
use Rattle.table.specs.Format.{op_read_ref}
use Rattle.table.specs.Rows.{row_count, row_at}
use Rattle.table.specs.Index.{index_of}
use Rattle.judging.specs.Judging.{judge_of}
use Rattle.reach.specs.Reach.{Mem}
use Rattle.semantics.specs.Machine.{to_field, Value, num, refer, Cell, Entry, Frame, frame, State, state, next, finished, stopped, stuck}
use Rattle.semantics.specs.Calls.{list_of}
use Rattle.semantics.specs.History.{Base, base, Event, moment, ended}
use Rattle.semantics.specs.Run.{history_of}
use Rattle.semantics.specs.Words.{guest, guarded_field, GuardedReference, Holds, Exists, NumberIn, IsEntry}
use Rattle.semantics.specs.Stops.{Overflows, Overdraws}
use Rattle.semantics.specs.Claim.{All, Restored}
use Rattle.samples.specs.Tables.{table}
use Rattle.witnesses.specs.Tables.{rows_guest, calls_guest, rows_label, calls_label, rows_till, calls_till}

-- The words of demand 3 that ask about a table, at the table t: a guest's frame or not, a guarded field, a writable reference to one, what a stop restores
abbrev pub OfGuest : List ℕ → Frame → Bool → Type 0
OfGuest t (frame id p i ops ls) answer = guest t p ≡ answer

abbrev pub Guarded : List ℕ → ℕ → ℕ → Type 0
Guarded t y j = guarded_field t y j ≡ true

abbrev pub ToGuarded : List ℕ → Value → Type 0
ToGuarded t v = GuardedReference t v

abbrev pub SameStore : List ℕ → Base → Base → Type 0
SameStore t before after = Restored t (index_of t) before after

-- What an event can be. A step: something holds of the records and the store before it and of those after it
abbrev pub Step : (List Cell → List Entry → List Cell → List Entry → Type 0) → Event → Type 0
Step Q (moment (state fs rs st n) row (next (state fs' rs' st' n'))) = Q rs st rs' st'
Step Q (moment (state fs rs st n) row (finished vs (state fs' rs' st' n'))) = Q rs st rs' st'
Step Q (moment s row (stopped k)) = ⊥
Step Q (moment s row stuck) = ⊥
Step Q (ended before s row o after) = ⊥

-- it makes a record, breaks one up, publishes one, withdraws one
abbrev pub Makes : Event → Type 0
Makes = Step (λ (rs : List Cell) (st : List Entry) (rs' : List Cell) (st' : List Entry). (id y : ℕ) × Exists rs' id y × ¬ (Exists rs id y))

abbrev pub BreaksUp : Event → Type 0
BreaksUp = Step (λ (rs : List Cell) (st : List Entry) (rs' : List Cell) (st' : List Entry). (id y : ℕ) × Exists rs id y × ¬ (Exists rs' id y))

abbrev pub Publishes : Event → Type 0
Publishes = Step (λ (rs : List Cell) (st : List Entry) (rs' : List Cell) (st' : List Entry). (y a id : ℕ) × IsEntry st' y a id × ¬ (IsEntry st y a id))

abbrev pub Withdraws : Event → Type 0
Withdraws = Step (λ (rs : List Cell) (st : List Entry) (rs' : List Cell) (st' : List Entry). (y a id : ℕ) × IsEntry st y a id × ¬ (IsEntry st' y a id))

-- it changes the number in a guarded field of a record
abbrev pub Changes : List ℕ → Event → Type 0
Changes t = Step (λ (rs : List Cell) (st : List Entry) (rs' : List Cell) (st' : List Entry).
    (id y j x x' : ℕ) × Guarded t y j × NumberIn rs id y j x × NumberIn rs' id y j x' × (x ≢ x'))

-- A moment at which the running frame is a trusted module's and holds a writable reference to a guarded field, while a guest's frame waits below it
abbrev pub HoldsAboveGuest : List ℕ → Event → Type 0
HoldsAboveGuest t (moment (state (f ∷ fs) rs st n) row o) =
    OfGuest t f false × ((v : Value) × Holds f v × ToGuarded t v) × ((g : Frame) × Mem g fs × OfGuest t g true)
HoldsAboveGuest t (moment (state [] rs st n) row o) = ⊥
HoldsAboveGuest t (ended before s row o after) = ⊥

-- A step of a guest that reads the number x of a guarded field, through a read-only reference to it
pub record GuestReads (t : List ℕ) (e : Event) : Type 0 where
  pub id : ℕ
  pub procedure : ℕ
  pub at : ℕ
  pub under : List Value
  pub locals : List (Option Value)
  pub frames : List Frame
  pub records : List Cell
  pub store : List Entry
  pub count : ℕ
  pub row : ℕ
  pub record_of : ℕ
  pub type : ℕ
  pub field : ℕ
  pub x : ℕ
  pub is : e
      ≡ moment (state (frame id procedure at (refer false (to_field record_of type field) ∷ under) locals ∷ frames) records store count) row
      (next (state (frame id procedure (at + 1) (num x ∷ under) locals ∷ frames) records store count))
  pub opcode : (row_at t row).a ≡ op_read_ref
  pub by-guest : guest t procedure ≡ true
  pub guarded : guarded_field t type field ≡ true
  pub there : NumberIn records record_of type field x

-- A moment at which an instruction stops with k, and something holds of its row and its operands
abbrev pub StopsWith : ℕ → (ℕ → List Value → Type 0) → Event → Type 0
StopsWith k Q (moment (state (frame id p i ops ls ∷ fs) rs st n) row (stopped k')) = (k' ≡ k) × Q row ops
StopsWith k Q (moment (state (frame id p i ops ls ∷ fs) rs st n) row (next s)) = ⊥
StopsWith k Q (moment (state (frame id p i ops ls ∷ fs) rs st n) row (finished vs s)) = ⊥
StopsWith k Q (moment (state (frame id p i ops ls ∷ fs) rs st n) row stuck) = ⊥
StopsWith k Q (moment (state [] rs st n) row o) = ⊥
StopsWith k Q (ended before s row o after) = ⊥

-- any moment of a call, not its end
abbrev pub IsMoment : Event → Type 0
IsMoment (moment s row o) = Unit {0}
IsMoment (ended before s row o after) = ⊥

-- the store of a state, and of a call's beginning
abbrev pub store_in : State → List Entry
store_in (state fs rs st n) = st

abbrev pub store_of : Base → List Entry
store_of (base rs st n) = st

-- over a table t, in the history of a list l
module _ (t l : List ℕ) where
  -- there is such an event
  abbrev pub Happens : (Event → Type 0) → Type 0
  Happens Q = (k : ℕ) × (e : Event) × (nth (history_of t l) k ≡ some e) × Q e

  -- a step leaves another store than that of its call's beginning; the call stops later, and the store is that of the beginning again
  pub record StopsAfterChange : Type 0 where
    pub earlier : List Event
    pub here : State
    pub row : ℕ
    pub changed : State
    pub meanwhile : List Event
    pub before : Base
    pub last : State
    pub last_row : ℕ
    pub number : ℕ
    pub after : Base
    pub later : List Event
    pub in-history : history_of t l ≡ earlier ++ (moment here row (next changed) ∷ meanwhile ++ (ended before last last_row (stopped number) after ∷ later))
    pub same-call : All IsMoment meanwhile
    pub differs : store_in changed ≢ store_of before
    pub again : SameStore t before after

  -- the table is accepted and the list good, and all of this happens
  pub record Speaks : Type 0 where
    pub accepted : judge_of t ≡ Accepted (row_count t)
    pub good : list_of t (index_of t) l ≡ Accepted (row_count l)
    pub made : Happens Makes
    pub held : Happens (HoldsAboveGuest t)
    pub changed : Happens (Changes t)
    pub published : Happens Publishes
    pub withdrawn : Happens Withdraws
    pub broken_up : Happens BreaksUp
    pub stops : StopsAfterChange

  -- the same, and a guest reads a guarded number
  pub record Reads : Type 0 where
    pub accepted : judge_of t ≡ Accepted (row_count t)
    pub good : list_of t (index_of t) l ≡ Accepted (row_count l)
    pub read : Happens (GuestReads t)

  -- the same, and a difference is below zero, and a sum too large
  pub record Calculates : Type 0 where
    pub accepted : judge_of t ≡ Accepted (row_count t)
    pub good : list_of t (index_of t) l ≡ Accepted (row_count l)
    pub overdrawn : Happens (StopsWith 39 (λ (row : ℕ) (ops : List Value). Overdraws (row_at t row) ops))
    pub overflown : Happens (StopsWith 32 (λ (row : ℕ) (ops : List Value). Overflows (row_at t row) ops))

-- A table and a list: a guest lets a credit be issued, written and published, and then lets it be withdrawn twice, at which it stops
unfoldable pub table_guest : List ℕ
table_guest = table rows_guest

unfoldable pub list_guest : List ℕ
list_guest = table calls_guest

-- A table and a list: a guest reads a credit's kilos through a read-only reference
unfoldable pub table_label : List ℕ
table_label = table rows_label

unfoldable pub list_label : List ℕ
list_label = table calls_label

-- A table and a list: more kilos are taken out of a credit than are in it, and more put in than a number holds
unfoldable pub table_till : List ℕ
table_till = table rows_till

unfoldable pub list_till : List ℕ
list_till = table calls_till
