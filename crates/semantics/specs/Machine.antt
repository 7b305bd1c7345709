-- What the machine works on: values, frames, records, store (document 01, "Running").
use Rattle.std.specs.Prelude.{ℕ, zero, suc, ◌+◌, Bool, true, false, cond, ◌&&◌, List, [], ◌∷◌, eqb, set}
use Rattle.std.proofs.Math.Option.{Option, none, some}
use Rattle.std.proofs.Math.ListN.{get_elem? as nth}
use Rattle.declarations.specs.Program.{number, record_of, number_ref, record_ref, reference_to, frozen}

-- A value is a number, a record or a reference, and a reference names a local, a field or a record. Records and frames are named by identities that
-- are never used again. A value carries its own kind, so that a stale reference still has one: a reference to a local has the local's kind. A reference
-- that is not writable is read-only.
pub data Ref : Type 0 where
  to_local : (frame local kind : ℕ) → Ref
  to_field : (id type field : ℕ) → Ref
  to_record : (id type : ℕ) → Ref

pub data Value : Type 0 where
  num : ℕ → Value
  obj : (id type : ℕ) → Value
  refer : (writable : Bool) → Ref → Value

-- the kind of a writable reference; of one that is writable or not
abbrev pub ref_kind : Ref → ℕ
ref_kind (to_local f l k) = reference_to k
ref_kind (to_field id y j) = number_ref
ref_kind (to_record id y) = record_ref y

abbrev pub as_kind : Bool → ℕ → ℕ
as_kind true k = k
as_kind false k = frozen k

abbrev pub value_kind : Value → ℕ
value_kind (num n) = number
value_kind (obj id y) = record_of y
value_kind (refer w r) = as_kind w (ref_kind r)

-- whether a value can be written through
abbrev pub writable : Value → Bool
writable (num n) = false
writable (obj id y) = false
writable (refer w r) = w

-- A record is found by its identity, its place in a list. One that was unpacked stays there with its type, and no more.
pub data Cell : Type 0 where
  gone : (type : ℕ) → Cell
  here : (type : ℕ) → List Value → Cell

-- an entry of the store: its key is type and address
pub data Entry : Type 0 where
  entry : (type address id : ℕ) → Entry

-- a frame: its identity, its procedure, the instruction it is at, its operands, the top first, and its locals
pub data Frame : Type 0 where
  frame : (id procedure at : ℕ) → List Value → List (Option Value) → Frame

-- the frames, the running one first; the records; the store; how many frames there have been
pub data State : Type 0 where
  state : List Frame → List Cell → List Entry → ℕ → State

-- what an instruction does: it goes on, it is the last Ret and gives the call's results, or it stops with a number. Stuck: an operand is missing or of
-- the wrong kind, or a local is unfit
pub data Outcome : Type 0 where
  next : State → Outcome
  finished : List Value → State → Outcome
  stopped : ℕ → Outcome
  stuck : Outcome

-- Locals. What local l of frame f holds, if the frame has not returned and the local is full
abbrev pub content : Option (Option Value) → Option Value
content none = none
content (some held) = held

abbrev pub local_of : List Frame → ℕ → ℕ → Option Value
local_of [] f l = none
local_of (frame id p i ops ls ∷ fs) f l = cond (eqb id f) (content (nth ls l)) (local_of fs f l)

abbrev pub put_local : List Frame → ℕ → ℕ → Value → List Frame
put_local [] f l v = []
put_local (frame id p i ops ls ∷ fs) f l v = cond (eqb id f) (frame id p i ops (set ls l (some v)) ∷ fs) (frame id p i ops ls ∷ put_local fs f l v)

-- Records. How many live
abbrev pub lives : Cell → ℕ
lives (gone y) = 0
lives (here y vs) = 1

abbrev pub live_count : List Cell → ℕ
live_count [] = 0
live_count (c ∷ cs) = lives c + live_count cs

-- a value put into field j of record id, where it lives
abbrev pub put_field : List Cell → ℕ → ℕ → Value → List Cell
put_field [] id j v = []
put_field (gone y ∷ cs) zero j v = gone y ∷ cs
put_field (here y vs ∷ cs) zero j v = here y (set vs j v) ∷ cs
put_field (c ∷ cs) (suc id) j v = c ∷ put_field cs id j v

-- The store. The record under a key; the store without it
abbrev pub find_key : List Entry → ℕ → ℕ → Option ℕ
find_key [] y a = none
find_key (entry y' a' id ∷ es) y a = cond (eqb y' y && eqb a' a) (some id) (find_key es y a)

abbrev pub drop_key : List Entry → ℕ → ℕ → List Entry
drop_key [] y a = []
drop_key (entry y' a' id ∷ es) y a = cond (eqb y' y && eqb a' a) es (entry y' a' id ∷ drop_key es y a)

-- Where a reference leads: to a number; to a record with its fields; nowhere now, since the record was unpacked, the frame has returned or the local
-- is empty; or to what no reference leads to
pub data Target : Type 0 where
  a_number : ℕ → Target
  a_record : (id : ℕ) → List Value → Target
  stale wrong : Target

abbrev pub in_cell : ℕ → Option Cell → Target
in_cell id none = wrong
in_cell id (some (gone y)) = stale
in_cell id (some (here y vs)) = a_record id vs

abbrev pub in_local : List Cell → Option Value → Target
in_local rs none = stale
in_local rs (some (num n)) = a_number n
in_local rs (some (obj id y)) = in_cell id (nth rs id)
in_local rs (some (refer w r)) = wrong

abbrev pub number_in : Option Value → Target
number_in none = wrong
number_in (some (num n)) = a_number n
number_in (some (obj id y)) = wrong
number_in (some (refer w r)) = wrong

abbrev pub in_field : Target → ℕ → Target
in_field (a_record id vs) j = number_in (nth vs j)
in_field (a_number n) j = wrong
in_field stale j = stale
in_field wrong j = wrong

abbrev pub leads_to : List Frame → List Cell → Ref → Target
leads_to fs rs (to_local f l k) = in_local rs (local_of fs f l)
leads_to fs rs (to_field id y j) = in_field (in_cell id (nth rs id)) j
leads_to fs rs (to_record id y) = in_cell id (nth rs id)

abbrev pub target : List Frame → List Cell → Value → Target
target fs rs (num n) = wrong
target fs rs (obj id y) = wrong
target fs rs (refer w r) = leads_to fs rs r

-- a number written through a reference: into a local, or into a field
abbrev pub write_frames : List Frame → Value → Value → List Frame
write_frames fs (refer w (to_local f l k)) v = put_local fs f l v
write_frames fs (refer w (to_field id y j)) v = fs
write_frames fs (refer w (to_record id y)) v = fs
write_frames fs (num n) v = fs
write_frames fs (obj id y) v = fs

abbrev pub write_records : List Cell → Value → Value → List Cell
write_records rs (refer w (to_field id y j)) v = put_field rs id j v
write_records rs (refer w (to_local f l k)) v = rs
write_records rs (refer w (to_record id y)) v = rs
write_records rs (num n) v = rs
write_records rs (obj id y) v = rs
