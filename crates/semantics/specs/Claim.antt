-- Demand 3: what is safe of an event of a list of calls. `Chain` says which events there are.
use Rattle.std.specs.Prelude.{ℕ, ◌+◌, ◌-◌, ◌/◌, ◌%◌, ◌<◌, ◌≤◌, ◌≡◌, Bool, true, false, List, [], ◌∷◌, map, ◌≢◌, ◌⊎◌, length, set}
use Rattle.std.proofs.Math.Option.{Option, some}
use Rattle.std.proofs.Math.ListN.{get_elem? as nth}
use Rattle.table.specs.declared.index.Index.{Index}
use Rattle.table.specs.Format.{instruction_kind, max_results, op_write_ref, op_borrow_loc, op_borrow_fld, op_borrow_global, op_call, op_ret, op_pack, op_unpack, op_move_to, op_move_from, op_op, op_freeze}
use Rattle.table.specs.Rows.{row_at, kind_at}
use Rattle.table.specs.Index.{owner_at}
use Rattle.declarations.specs.Program.{number, is_reference, procedure_in, local_kind, local_count}
use Rattle.effects.specs.Kinds.{good}
use Rattle.operands.specs.Operands.{kinds_before}
use Rattle.reach.specs.Reach.{Mem}
use Rattle.arithmetic.specs.Arithmetic.{Value as Gives, past_numbers, calculation}
use Rattle.semantics.specs.Machine.{Ref, to_local, to_field, to_record, Value, value_kind, writable, num, obj, refer, put_local, find_key, Cell, here, Entry, Frame, frame, State, state, Outcome, next, finished, stopped, stuck, a_record, target}
use Rattle.semantics.specs.Limits.{budget_spent}
use Rattle.semantics.specs.Step.{pushed_on, start_locals, took, taken, instruction, effect_at, step}
use Rattle.semantics.specs.History.{Base, base, Event, moment, ended}
use Rattle.semantics.specs.Ownership.{in_frames, in_records, in_store, lives_at}
use Rattle.semantics.specs.Words.{type_count, procedure_count, module_of, declarer, in_guest, guest, guarded_field, kinds_in, body_of, instruction_row, GuardedReference, Holds, Exists, Existed, NumberIn, IsEntry, InStore}
use Rattle.semantics.specs.Stops.{Cause}

-- something holds of every element of a list
pub data All {A : Type 0} (Q : A → Type 0) : List A → Type 0 where
  none_left : All Q []
  also : {x : A} {xs : List A} → Q x → All Q xs → All Q (x ∷ xs)

-- each of two implies the other
abbrev pub ◌⇔◌ : Type 0 → Type 0 → Type 0
◌⇔◌ A B = (A → B) × (B → A)

-- each live record is held exactly once, and no other
abbrev pub Owned : List Frame → List Cell → List Entry → Type 0
Owned fs rs st = (r : ℕ) → in_frames r fs + in_records r rs + in_store r st ≡ lives_at rs r

-- a record in a field of a record exists and is of a lower type: so no record holds itself, directly or through others
abbrev pub Nested : List Cell → Type 0
Nested rs = (id y : ℕ) (vs : List Value) → nth rs id ≡ some (here y vs) → (id' y' : ℕ) → Mem (obj id' y') vs → (y' < y) × Exists rs id' y'

-- a record that is reached from the store: an entry, or in a field of one that is reached
pub data Reached (rs : List Cell) (st : List Entry) : ℕ → Type 0 where
  published-there : {id : ℕ} (y a : ℕ) → IsEntry st y a id → Reached rs st id
  nested-there : {id : ℕ} (y : ℕ) (vs : List Value) (id' y' : ℕ) → Reached rs st id → nth rs id ≡ some (here y vs) → Mem (obj id' y') vs → Reached rs st id'

-- a number of 64 bits
abbrev pub IsNumber : Value → Type 0
IsNumber v = (n : ℕ) × (v ≡ num n) × (n < past_numbers)

-- the identities of frames rise from the bottom, all below n
abbrev pub Rising : ℕ → List Frame → Type 0
Rising n [] = Unit {0}
Rising n (frame id p i ops ls ∷ fs) = (id < n) × Rising id fs

abbrev pub IsReference : Value → Type 0
IsReference (num n) = ⊥
IsReference (obj id y) = ⊥
IsReference (refer w r) = Unit {0}

-- what a field may hold: a number of 64 bits or a record, no reference
abbrev pub Plain : Value → Type 0
Plain (num n) = n < past_numbers
Plain (obj id y) = Unit {0}
Plain (refer w r) = ⊥

-- of a table
module _ (t : List ℕ) where
  -- a record that exists is of a type of the table and has exactly its fields: in each a number, or a record of the type that it names
  abbrev pub Shaped : List Cell → Type 0
  Shaped rs = (id y : ℕ) (vs : List Value) → nth rs id ≡ some (here y vs) → (y < type_count t) × (map value_kind vs ≡ kinds_in t y)

  -- the record of an entry exists and is of the key's type
  abbrev pub Entered : List Cell → List Entry → Type 0
  Entered rs st = (y a id : ℕ) → IsEntry st y a id → Exists rs id y

  -- 6. Records and entries, with the frames that hold some of the records
  pub record Sound (fs : List Frame) (rs : List Cell) (st : List Entry) : Type 0 where
    pub owned : Owned fs rs st
    pub nested : Nested rs
    pub plain : (id y : ℕ) (vs : List Value) → nth rs id ≡ some (here y vs) → All Plain vs
    pub shaped : Shaped rs
    pub entered : Entered rs st
    pub keys : (y a id id' : ℕ) → IsEntry st y a id → IsEntry st y a id' → id ≡ id'

  -- A value is what it says. A reference names its record by the type that the record has or had, a field of it by the place of a number field; a
  -- reference to a local has the kind, no reference's, that the frame's procedure declares for the local
  abbrev pub Labelled : List Frame → List Cell → ℕ → Value → Type 0
  Labelled fs rs n (num x) = x < past_numbers
  Labelled fs rs n (obj id y) = Exists rs id y
  Labelled fs rs n (refer w (to_record id y)) = Existed rs id y
  Labelled fs rs n (refer w (to_field id y j)) = Existed rs id y × (nth (kinds_in t y) j ≡ some number)
  Labelled fs rs n (refer w (to_local f l k)) =
      (f < n) × (is_reference k ≡ false) × ((p i : ℕ) (ops : List Value) (ls : List (Option Value)) → Mem (frame f p i ops ls) fs → (l < local_count (body_of t p)) × (local_kind t (body_of t p) l ≡ k))

  -- what a frame holds is what it says, and in a local of the declared kind
  pub data Typed (fs : List Frame) (rs : List Cell) (n : ℕ) : Frame → Type 0 where
    typed : {id p i : ℕ} {ops : List Value} {ls : List (Option Value)} → ((v : Value) → Holds (frame id p i ops ls) v → Labelled fs rs n v)
        → ((l : ℕ) (v : Value) → nth ls l ≡ some (some v) → (l < local_count (body_of t p)) × (value_kind v ≡ local_kind t (body_of t p) l)) → Typed fs rs n (frame id p i ops ls)

  -- each frame under one of procedure q stands at the Call of the one above it
  pub data Linked : ℕ → List Frame → Type 0 where
    first : {q : ℕ} → Linked q []
    under : {q id p i : ℕ} {ops : List Value} {ls : List (Option Value)} {fs : List Frame} → p < procedure_count t → instruction_row t p i < (body_of t p).end
        → (row_at t (instruction_row t p i)).a ≡ op_call → (row_at t (instruction_row t p i)).b ≡ q → Linked p fs → Linked q (frame id p i ops ls ∷ fs)

  -- 2. No frame of a guest holds a writable reference to a guarded field; others hold only those of their own module's types
  abbrev pub Kept : Frame → Type 0
  Kept (frame id p i ops ls) =
      (v : Value) → Holds (frame id p i ops ls) v → GuardedReference t v → (guest t p ≡ false) × ((id' y j : ℕ) → v ≡ refer true (to_field id' y j) → declarer t y ≡ module_of t p)

  -- The step of a row writes number z to field j of record id, of type y: it is WriteRef through a writable reference to that field of that record
  abbrev pub Writes : ℕ → List Value → ℕ → ℕ → ℕ → ℕ → Type 0
  Writes row ops id y j z = ((row_at t row).a ≡ op_write_ref) × ((under : List Value) × (ops ≡ refer true (to_field id y j) ∷ num z ∷ under))

  -- it is this instruction of type y, which exists, in the module that declares y
  pub record By (row op y : ℕ) : Type 0 where
    pub opcode : (row_at t row).a ≡ op
    pub operand : (row_at t row).b ≡ y
    pub there : y < type_count t
    pub own : declarer t y ≡ owner_at t row

  -- 3 and 4. What the step of a row, over the operands ops, does to records and store
  pub record Proper (row : ℕ) (ops : List Value) (rs : List Cell) (st : List Entry) (rs' : List Cell) (st' : List Entry) : Type 0 where
    -- a guarded number of a record that exists before and after differs exactly if the step writes another number to it
    pub changed : (id y j x x' : ℕ) → guarded_field t y j ≡ true → NumberIn rs id y j x → NumberIn rs' id y j x' → ◌⇔◌ (x ≢ x') ((z : ℕ) × Writes row ops id y j z × (x ≢ z))
    -- what is written is there afterwards, and a guarded number is written in the module that declares the type
    pub written : (id y j x x' z : ℕ) → NumberIn rs id y j x → NumberIn rs' id y j x' → Writes row ops id y j z → x' ≡ z
    pub own : (id y j z : ℕ) → guarded_field t y j ≡ true → Writes row ops id y j z → declarer t y ≡ owner_at t row
    -- a record that is there before and after keeps its fields, numbers and nested records, but for one number that is written to it
    pub fields : (id y : ℕ) (vs vs' : List Value) → nth rs id ≡ some (here y vs) → nth rs' id ≡ some (here y vs') → (vs' ≡ vs) ⊎ ((j z : ℕ) × (vs' ≡ set vs j (num z)) × Writes row ops id y j z)
    -- a record is made by Pack and broken up by Unpack of its type; one that is made is another than every one before, those broken up included
    pub made : (id y : ℕ) → Exists rs' id y → ¬ (Exists rs id y) → By row op_pack y
    pub broken : (id y : ℕ) → Exists rs id y → ¬ (Exists rs' id y) → By row op_unpack y
    pub fresh : (id y : ℕ) → Exists rs' id y → ¬ (Exists rs id y) → length rs ≤ id
    pub grows : length rs ≤ length rs'
    -- a record is published by MoveTo and withdrawn by MoveFrom of its type, and so is each of its keys
    pub published : (id y : ℕ) → Exists rs' id y → InStore st' id → ¬ (InStore st id) → By row op_move_to y
    pub withdrawn : (id y : ℕ) → Exists rs id y → InStore st id → ¬ (InStore st' id) → By row op_move_from y
    pub entered : (y a id : ℕ) → IsEntry st' y a id → ¬ (IsEntry st y a id) → By row op_move_to y
    pub left : (y a id : ℕ) → IsEntry st y a id → ¬ (IsEntry st' y a id) → By row op_move_from y
    -- each of these is one record, told by the operands: the fields of the one made, which has the next identity; the record and the address
    pub packs : (id y : ℕ) (vs : List Value) → nth rs' id ≡ some (here y vs) → ¬ (Exists rs id y) → (id ≡ length rs) × ((rest : List Value) × (ops ≡ pushed_on vs rest))
    pub unpacks : (id y : ℕ) → Exists rs id y → ¬ (Exists rs' id y) → (rest : List Value) × (ops ≡ obj id y ∷ rest)
    pub keyed : (y a id : ℕ) → IsEntry st' y a id → ¬ (IsEntry st y a id) → (rest : List Value) × (ops ≡ num a ∷ obj id y ∷ rest)
    pub unkeyed : (y a id : ℕ) → IsEntry st y a id → ¬ (IsEntry st' y a id) → (rest : List Value) × (ops ≡ num a ∷ rest)

  -- The step of a row makes a reference: BorrowLoc to that local of its own frame; BorrowFld, through a reference that leads to a record, to that field of
  -- that record, or to the record that stands in it, read-only where the one that it goes through is; BorrowGlobal to the record under that key; Freeze the
  -- read-only one to what a writable one leads to
  pub data Makes (row id p : ℕ) (ops : List Value) (fs : List Frame) (rs : List Cell) (st : List Entry) : Value → Type 0 where
    local-made : (row_at t row).a ≡ op_borrow_loc → Makes row id p ops fs rs st (refer true (to_local id (row_at t row).b (local_kind t (body_of t p) (row_at t row).b)))
    field-made : {r : Value} {under fields : List Value} {c : ℕ} → (row_at t row).a ≡ op_borrow_fld → ops ≡ r ∷ under → target fs rs r ≡ a_record c fields
        → Makes row id p ops fs rs st (refer (writable r) (to_field c ((row_at t row).b / 8) ((row_at t row).b % 8)))
    nested-made : {r : Value} {under fields : List Value} {c c' y : ℕ} → (row_at t row).a ≡ op_borrow_fld → ops ≡ r ∷ under → target fs rs r ≡ a_record c fields
        → nth fields ((row_at t row).b % 8) ≡ some (obj c' y) → Makes row id p ops fs rs st (refer (writable r) (to_record c' y))
    entry-made : {under : List Value} {a c : ℕ} → (row_at t row).a ≡ op_borrow_global → ops ≡ num a ∷ under → find_key st (row_at t row).b a ≡ some c
        → Makes row id p ops fs rs st (refer true (to_record c (row_at t row).b))
    frozen-made : {r : Ref} {under : List Value} → (row_at t row).a ≡ op_freeze → ops ≡ refer true r ∷ under → Makes row id p ops fs rs st (refer false r)

  -- 7. The instruction of a row has no cause to stop
  abbrev pub Unhindered : (row : ℕ) → List Value → List Frame → List Cell → List Entry → Type 0
  Unhindered row ops fs rs st = (k : ℕ) → ¬ (Cause (row_at t row) ops fs rs st k)

  -- stop k, at a row: 31, of which `Chain` says when, or the number of a cause that the instruction has
  abbrev pub StopsAt : (row : ℕ) → State → ℕ → Type 0
  StopsAt row (state [] rs st n) k = ⊥
  StopsAt row (state (frame id p i ops ls ∷ fs) rs st n) k = (k ≡ budget_spent) ⊎ Cause (row_at t row) ops (frame id p i ops ls ∷ fs) rs st k

  -- of frames with this index
  module _ (ix : Index) where
    -- what the instruction that comes up takes, and what lies under it
    abbrev pub Takes : ℕ → ℕ → List Value → List Value → List Value → Type 0
    Takes p i ops vs rest = taken (effect_at t ix p i ops).takes ops ≡ took vs rest

    -- What a step leaves of the frames: frame id of procedure p with locals ls ran, over the frames fs. Those under it stay as they were, but for a number
    -- that WriteRef puts into a local through a writable reference to it; what a Call takes goes to the called frame, what Ret takes to the caller's
    pub data Handed (row id p i : ℕ) (ops : List Value) (ls : List (Option Value)) (fs : List Frame) (n : ℕ) : List Frame → ℕ → Type 0 where
      goes_on : {j : ℕ} {ops' : List Value} {ls' : List (Option Value)} → (row_at t row).a ≢ op_call → (row_at t row).a ≢ op_ret → Handed row id p i ops ls fs n (frame id p j ops' ls' ∷ fs) n
      writes : {f l k z : ℕ} {rest : List Value} → (row_at t row).a ≡ op_write_ref → ops ≡ refer true (to_local f l k) ∷ num z ∷ rest
          → Handed row id p i ops ls fs n (put_local (frame id p (i + 1) rest ls ∷ fs) f l (num z)) n
      calls : {vs rest : List Value} → (row_at t row).a ≡ op_call → Takes p i ops vs rest
          → Handed row id p i ops ls fs n (frame n (row_at t row).b 0 [] (start_locals vs (local_count (body_of t (row_at t row).b) - length vs)) ∷ frame id p i rest ls ∷ fs) (n + 1)
      returns : {vs : List Value} {id' p' i' : ℕ} {ops' : List Value} {ls' : List (Option Value)} {rest : List Frame} → (row_at t row).a ≡ op_ret → Takes p i ops vs [] → fs ≡ frame id' p' i' ops' ls' ∷ rest
          → Handed row id p i ops ls fs n (frame id' p' (i' + 1) (pushed_on vs ops') ls' ∷ rest) n

    -- A reference that the frame that ran holds after a step, where it is still on top, it held before, or the step made it
    abbrev pub Origin : (row id p i : ℕ) → List Value → List (Option Value) → List Frame → List Cell → List Entry → List Frame → Type 0
    Origin row id p i ops ls fs rs st [] = Unit {0}
    Origin row id p i ops ls fs rs st (frame id' p' i' ops' ls' ∷ fs') =
        id' ≡ id → (v : Value) → IsReference v → Holds (frame id' p' i' ops' ls') v → Holds (frame id p i ops ls) v ⊎ Makes row id p ops (frame id p i ops ls ∷ fs) rs st v

    -- 1. The row told is that of the instruction that comes up; the operands have the kinds that the judge found, none that it takes is missing or of the wrong
    -- kind, its local, or the top operand, is fit, and it is not stuck
    pub record Ready (row p i : ℕ) (ops : List Value) (s : State) : Type 0 where
      pub procedure : p < procedure_count t
      pub place : row ≡ instruction_row t p i
      pub inside : row < (body_of t p).end
      pub kind : kind_at t row ≡ instruction_kind
      pub found : instruction t ix p i ≡ row_at t row
      pub body : procedure_in ix p ≡ body_of t p
      pub stands_in : owner_at t row ≡ module_of t p
      pub guests : in_guest t row ≡ guest t p
      pub kinds : kinds_before t ix (procedure_in ix p) i ≡ good (map value_kind ops)
      pub fit : (effect_at t ix p i ops).fit ≡ true
      pub operands : (vs rest : List Value) × Takes p i ops vs rest
      pub moves : step t ix s ≡ stuck → ⊥
      -- WriteRef comes up with a writable reference only, to a field or to a local
      pub through : (row_at t row).a ≡ op_write_ref → (w : Bool) (r : Ref) (rest : List Value) → ops ≡ refer w r ∷ rest → w ≡ true

    -- a state in which frame id of procedure p is at instruction i, with the row told
    pub record SafeState (row id p i : ℕ) (ops : List Value) (ls : List (Option Value)) (fs : List Frame) (rs : List Cell) (st : List Entry) (n : ℕ) : Type 0 where
      pub ready : Ready row p i ops (state (frame id p i ops ls ∷ fs) rs st n)
      pub kept : All Kept (frame id p i ops ls ∷ fs)
      pub sound : Sound (frame id p i ops ls ∷ fs) rs st
      pub types : All (Typed (frame id p i ops ls ∷ fs) rs n) (frame id p i ops ls ∷ fs)
      pub linked : Linked p fs
      pub rising : Rising n (frame id p i ops ls ∷ fs)

    -- Freeze takes a writable reference and pushes the read-only one to the same; nothing else differs
    abbrev pub Freezes : (row id p i : ℕ) → List Value → List (Option Value) → List Frame → List Cell → List Entry → List Frame → List Cell → List Entry → Type 0
    Freezes row id p i ops ls fs rs st fs' rs' st' =
        (row_at t row).a ≡ op_freeze → (r : Ref) × (under : List Value) × (ops ≡ refer true r ∷ under) × (fs' ≡ frame id p (i + 1) (refer false r ∷ under) ls ∷ fs) × (rs' ≡ rs) × (st' ≡ st)

    -- Op takes two numbers, the second on top, and pushes what its operation gives of them; nothing else differs
    abbrev pub Calculates : (row id p i : ℕ) → List Value → List (Option Value) → List Frame → List Cell → List Entry → List Frame → List Cell → List Entry → Type 0
    Calculates row id p i ops ls fs rs st fs' rs' st' =
        (row_at t row).a ≡ op_op → (x y z : ℕ) × (under : List Value) × (ops ≡ num y ∷ num x ∷ under) × (calculation (row_at t row).b x y ≡ Gives z) × (fs' ≡ frame id p (i + 1) (num z ∷ under) ls ∷ fs) × (rs' ≡ rs) × (st' ≡ st)

    -- what comes of it: a step, which nothing hinders; the Ret of the first frame, with exactly what it takes; or a stop, for its cause
    pub data SafeOutcome (row id p i : ℕ) (ops : List Value) (ls : List (Option Value)) (fs : List Frame) (rs : List Cell) (st : List Entry) (n : ℕ) : Outcome → Type 0 where
      goes : {fs' : List Frame} {rs' : List Cell} {st' : List Entry} {n' : ℕ} → Unhindered row ops (frame id p i ops ls ∷ fs) rs st → Proper row ops rs st rs' st' → Handed row id p i ops ls fs n fs' n'
          → Origin row id p i ops ls fs rs st fs' → Freezes row id p i ops ls fs rs st fs' rs' st' → Calculates row id p i ops ls fs rs st fs' rs' st'
          → SafeOutcome row id p i ops ls fs rs st n (next (state fs' rs' st' n'))
      returns_last : {vs : List Value} → (row_at t row).a ≡ op_ret → Takes p i ops vs [] → fs ≡ [] → SafeOutcome row id p i ops ls fs rs st n (finished vs (state [] rs st n))
      stops : {k : ℕ} → StopsAt row (state (frame id p i ops ls ∷ fs) rs st n) k → SafeOutcome row id p i ops ls fs rs st n (stopped k)

    -- 5. A stopped call leaves the store of its beginning: the same entries, and the same records with the same fields; no other record exists
    abbrev pub Restored : Base → Base → Type 0
    Restored (base rs st n) (base rs' st' n') =
        (st' ≡ st) × ((id : ℕ) (c : Cell) → nth rs id ≡ some c → nth rs' id ≡ some c) × ((id y : ℕ) → length rs ≤ id → ¬ (Exists rs' id y))

    -- how a call ends, with a last state and row: finished, with at most four numbers, it leaves what its last step left; or it stopped there
    pub data SafeEnd (before : Base) (last : State) (row : ℕ) : Outcome → Base → Type 0 where
      finishes : {vs : List Value} {rs : List Cell} {st : List Entry} {n : ℕ} → All IsNumber vs → length vs ≤ max_results → SafeEnd before last row (finished vs (state [] rs st n)) (base rs st n)
      restores : {k : ℕ} {after : Base} → StopsAt row last k → Restored before after → SafeEnd before last row (stopped k) after

    -- no identity of the call is used again; between calls every record that exists is reached from the store
    pub record Between (rs : List Cell) (st : List Entry) : Type 0 where
      pub sound : Sound [] rs st
      pub reached : (id y : ℕ) → Exists rs id y → Reached rs st id

    abbrev pub Later : State → Base → Type 0
    Later (state fs rs st n) (base rs' st' n') = (length rs ≤ length rs') × (n ≤ n') × Between rs' st'

    pub data Safe : Event → Type 0 where
      safe : {row id p i : ℕ} {ops : List Value} {ls : List (Option Value)} {fs : List Frame} {rs : List Cell} {st : List Entry} {n : ℕ} {o : Outcome} → SafeState row id p i ops ls fs rs st n
          → SafeOutcome row id p i ops ls fs rs st n o → Safe (moment (state (frame id p i ops ls ∷ fs) rs st n) row o)
      ends : {before : Base} {s : State} {row : ℕ} {o : Outcome} {after : Base} → SafeEnd before s row o after → Later s after → Safe (ended before s row o after)
