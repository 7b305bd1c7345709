-- The machine as its code has it, on lists: rooms for records, and references that tell where to look.
use Rattle.std.specs.Prelude.{ℕ, zero, suc, ◌+◌, ◌/◌, ◌%◌, cond, ◌&&◌, List, [], ◌∷◌, ◌++◌, eqb, ltb, length, set, take, drop, replicate}
use Rattle.std.proofs.Math.Option.{Option, none, some}
use Rattle.std.proofs.Math.ListN.{get_elem? as nth}
use Rattle.arithmetic.specs.Arithmetic.{Calculated, Value, TooLarge, BelowZero, Unknown, calculation}
use Rattle.semantics.specs.Limits.{max_frames, max_records, max_entries, too_large, below_zero, key_taken, no_such_key, stale_reference, too_many_frames, too_many_records, too_many_entries}
use Rattle.state.specs.declared.Reference.{Reference}
use Rattle.state.specs.declared.Reference.TheVariants.{Local, Field, Record as Whole}
use Rattle.state.specs.declared.Operand.{Operand}
use Rattle.state.specs.declared.Operand.TheVariants.{Empty, Number, Record, Refer}

-- a frame: serial number, procedure, instruction, operands, the top first, and locals
pub data MFrame : Type 0 where
  mframe : (serial procedure at : ℕ) → List Operand → List Operand → MFrame

-- a room in use: the record's serial number, its type and its fields
pub data MRoom : Type 0 where
  mroom : (serial type : ℕ) → List Operand → MRoom

-- an entry of the store: key, and the record's serial number and room
pub data MEntry : Type 0 where
  mentry : (type address serial room : ℕ) → MEntry

-- the running frame; those below it, the caller first; the rooms; how many records there have been; the store; how many frames there have been
pub data MState : Type 0 where
  mstate : MFrame → List MFrame → List (Option MRoom) → ℕ → List MEntry → ℕ → MState

pub data MOutcome : Type 0 where
  mnext : MState → MOutcome
  mfinished : List Operand → MState → MOutcome
  mstopped : ℕ → MOutcome
  mbroken : MOutcome

-- the top operands
abbrev pub top : List Operand → Operand
top [] = Empty
top (x ∷ xs) = x

abbrev pub second : List Operand → Operand
second xs = top (drop 1 xs)

-- the k topmost operands in the order in which they were pushed, and operands pushed in order
abbrev pub back_to : List Operand → List Operand → List Operand
back_to [] ys = ys
back_to (x ∷ xs) ys = back_to xs (x ∷ ys)

abbrev pub topmost : ℕ → List Operand → List Operand
topmost k xs = back_to (take k xs) []

-- what a place holds
abbrev pub held : Option Operand → Operand
held none = Empty
held (some x) = x

-- the first room that is not in use; as many as there are where there is none
abbrev pub free_room : List (Option MRoom) → ℕ
free_room [] = 0
free_room (none ∷ rooms) = 0
free_room (some r ∷ rooms) = suc (free_room rooms)

-- the record in a room, if it is the one with this serial number
abbrev pub room_of : Option (Option MRoom) → ℕ → Option MRoom
room_of none s = none
room_of (some none) s = none
room_of (some (some (mroom s' y xs))) s = cond (eqb s' s) (some (mroom s' y xs)) none

-- local l of frame f, if it stands at depth d
abbrev pub local_at : List MFrame → ℕ → ℕ → ℕ → Operand
local_at [] f d l = Empty
local_at (mframe s p at ops ls ∷ fs) f d l = cond (eqb (length fs) d) (cond (eqb s f) (held (nth ls l)) Empty) (local_at fs f d l)

abbrev pub put_at : List MFrame → ℕ → ℕ → Operand → List MFrame
put_at [] d l x = []
put_at (mframe s p at ops ls ∷ fs) d l x = cond (eqb (length fs) d) (mframe s p at ops (set ls l x) ∷ fs) (mframe s p at ops ls ∷ put_at fs d l x)

-- a field put into the record in a room
abbrev pub put_room : List (Option MRoom) → ℕ → ℕ → Operand → List (Option MRoom)
put_room [] r j x = []
put_room (none ∷ rooms) zero j x = none ∷ rooms
put_room (some (mroom s y xs) ∷ rooms) zero j x = some (mroom s y (set xs j x)) ∷ rooms
put_room (m ∷ rooms) (suc r) j x = m ∷ put_room rooms r j x

-- the entry under a key, and the store without it
abbrev pub find_entry : List MEntry → ℕ → ℕ → Option MEntry
find_entry [] y a = none
find_entry (mentry y' a' s r ∷ es) y a = cond (eqb y' y && eqb a' a) (some (mentry y' a' s r)) (find_entry es y a)

abbrev pub drop_entry : List MEntry → ℕ → ℕ → List MEntry
drop_entry [] y a = []
drop_entry (mentry y' a' s r ∷ es) y a = cond (eqb y' y && eqb a' a) es (mentry y' a' s r ∷ drop_entry es y a)

-- Where a reference leads: to a number; to a record with its serial number, its room and its fields; nowhere now; or to what no reference leads to
pub data MTarget : Type 0 where
  m_number : ℕ → MTarget
  m_record : (serial room : ℕ) → List Operand → MTarget
  m_stale m_wrong : MTarget

abbrev pub in_room : ℕ → Option MRoom → MTarget
in_room r none = m_stale
in_room r (some (mroom s y xs)) = m_record s r xs

abbrev pub in_operand : List (Option MRoom) → Operand → MTarget
in_operand rooms Empty = m_stale
in_operand rooms (Number n) = m_number n
in_operand rooms (Record s r y) = in_room r (room_of (nth rooms r) s)
in_operand rooms (Refer r) = m_wrong

abbrev pub number_in : Operand → MTarget
number_in Empty = m_wrong
number_in (Number n) = m_number n
number_in (Record s r y) = m_wrong
number_in (Refer r) = m_wrong

abbrev pub field_in : ℕ → Option MRoom → MTarget
field_in j none = m_stale
field_in j (some (mroom s y xs)) = number_in (held (nth xs j))

abbrev pub leads : List MFrame → List (Option MRoom) → Reference → MTarget
leads fs rooms (Local f d l k) = in_operand rooms (local_at fs f d l)
leads fs rooms (Field s r y j) = field_in j (room_of (nth rooms r) s)
leads fs rooms (Whole s r y) = in_room r (room_of (nth rooms r) s)

-- what an operand is
abbrev pub as_number : Operand → (ℕ → MOutcome) → MOutcome
as_number Empty k = mbroken
as_number (Number n) k = k n
as_number (Record s r y) k = mbroken
as_number (Refer r) k = mbroken

abbrev pub as_record : Operand → (ℕ → ℕ → MOutcome) → MOutcome
as_record Empty k = mbroken
as_record (Number n) k = mbroken
as_record (Record s r y) k = k s r
as_record (Refer r) k = mbroken

abbrev pub as_reference : Operand → (Reference → MOutcome) → MOutcome
as_reference Empty k = mbroken
as_reference (Number n) k = mbroken
as_reference (Record s r y) k = mbroken
as_reference (Refer r) k = k r

abbrev pub number_from : MTarget → (ℕ → MOutcome) → MOutcome
number_from (m_number n) k = k n
number_from (m_record s r xs) k = mbroken
number_from m_stale k = mstopped stale_reference
number_from m_wrong k = mbroken

abbrev pub record_from : MTarget → (ℕ → ℕ → List Operand → MOutcome) → MOutcome
record_from (m_number n) k = mbroken
record_from (m_record s r xs) k = k s r xs
record_from m_stale k = mstopped stale_reference
record_from m_wrong k = mbroken

abbrev pub fields_from : Option MRoom → (List Operand → MOutcome) → MOutcome
fields_from none k = mbroken
fields_from (some (mroom s y xs)) k = k xs

-- a reference to field j of a record, which holds an operand
abbrev pub field_of : ℕ → ℕ → ℕ → ℕ → Operand → (Operand → MOutcome) → MOutcome
field_of s r y j Empty k = mbroken
field_of s r y j (Number n) k = k (Refer (Field s r y j))
field_of s r y j (Record s' r' y') k = k (Refer (Whole s' r' y'))
field_of s r y j (Refer x) k = mbroken

abbrev pub under_entry : Option MEntry → MOutcome → (ℕ → ℕ → MOutcome) → MOutcome
under_entry none absent present = absent
under_entry (some (mentry y a s r)) absent present = present s r

-- writing through a reference
abbrev pub write_at : List MFrame → Reference → Operand → List MFrame
write_at fs (Local f d l k) x = put_at fs d l x
write_at fs (Field s r y j) x = fs
write_at fs (Whole s r y) x = fs

abbrev pub write_room : List (Option MRoom) → Reference → Operand → List (Option MRoom)
write_room rooms (Local f d l k) x = rooms
write_room rooms (Field s r y j) x = put_room rooms r j x
write_room rooms (Whole s r y) x = rooms

-- the state of frames listed with the running one first
abbrev pub with_frames : List MFrame → List (Option MRoom) → ℕ → List MEntry → ℕ → MOutcome
with_frames [] rooms recs es n = mbroken
with_frames (f ∷ fs) rooms recs es n = mnext (mstate f fs rooms recs es n)

abbrev pub given : List MFrame → List Operand → List (Option MRoom) → ℕ → List MEntry → ℕ → MFrame → MOutcome
given [] xs rooms recs es n f = mfinished xs (mstate f [] rooms recs es n)
given (mframe s p at ops ls ∷ fs) xs rooms recs es n f = mnext (mstate (mframe s p (at + 1) (back_to xs ops) ls) fs rooms recs es n)

-- An instruction with operand b and constant d of the running frame. `kind` is that of local b, `takes` is how many operands it takes, `others` how many
-- locals of procedure b are no parameters.
module _ (b d kind takes others s p at : ℕ) (ops ls : List Operand) (fs : List MFrame) (rooms : List (Option MRoom)) (recs : ℕ) (es : List MEntry) (n : ℕ) where
  abbrev pub on : List Operand → MOutcome
  on xs = mnext (mstate (mframe s p (at + 1) (back_to xs (drop takes ops)) ls) fs rooms recs es n)

  abbrev pub on_with : List Operand → Operand → MOutcome
  on_with xs x = mnext (mstate (mframe s p (at + 1) (back_to xs (drop takes ops)) (set ls b x)) fs rooms recs es n)

  abbrev pub leads_to : Reference → MTarget
  leads_to r = leads (mframe s p at (drop takes ops) ls ∷ fs) rooms r

  -- what an operation gives is pushed, or it stops
  abbrev pub calculates : Calculated → MOutcome
  calculates (Value x) = on (Number x ∷ [])
  calculates TooLarge = mstopped too_large
  calculates BelowZero = mstopped below_zero
  calculates Unknown = mbroken

  -- by opcode
  unfoldable pub doings : List MOutcome
  doings =
      on []
      ∷ on (Number d ∷ [])
      ∷ on_with (held (nth ls b) ∷ []) Empty
      ∷ on (held (nth ls b) ∷ [])
      ∷ on_with [] (top ops)
      ∷ on (Refer (Local s (length fs) b kind) ∷ [])
      ∷ as_reference (top ops) (λ (r : Reference). number_from (leads_to r) λ (x : ℕ). on (Number x ∷ []))
      ∷ as_number (second ops) (λ (x : ℕ). as_reference (top ops) λ (r : Reference). number_from (leads_to r) λ (y : ℕ).
      with_frames (write_at (mframe s p (at + 1) (drop takes ops) ls ∷ fs) r (Number x)) (write_room rooms r (Number x)) recs es n)
      ∷ as_reference (top ops) (λ (r : Reference). record_from (leads_to r) λ (a c : ℕ) (xs : List Operand). field_of a c (b / 8) (b % 8) (held (nth xs (b % 8))) λ (x : Operand). on (x ∷ []))
      ∷ cond (ltb (free_room rooms) max_records)
      (mnext (mstate (mframe s p (at + 1) (Record recs (free_room rooms) b ∷ drop takes ops) ls) fs (set rooms (free_room rooms) (some (mroom recs b (topmost takes ops)))) (recs + 1) es n)) (mstopped too_many_records)
      ∷ as_record (top ops) (λ (a r : ℕ). fields_from (room_of (nth rooms r) a) λ (xs : List Operand).
      mnext (mstate (mframe s p (at + 1) (back_to xs (drop takes ops)) ls) fs (set rooms r none) recs es n))
      ∷ as_record (second ops) (λ (c r : ℕ). as_number (top ops) λ (a : ℕ). under_entry (find_entry es b a)
      (cond (ltb (length es) max_entries) (mnext (mstate (mframe s p (at + 1) (drop takes ops) ls) fs rooms recs (mentry b a c r ∷ es) n)) (mstopped too_many_entries)) λ (c' r' : ℕ). mstopped key_taken)
      ∷ as_number (top ops) (λ (a : ℕ). under_entry (find_entry es b a) (mstopped no_such_key) λ (c r : ℕ).
      mnext (mstate (mframe s p (at + 1) (Record c r b ∷ drop takes ops) ls) fs rooms recs (drop_entry es b a) n))
      ∷ as_number (top ops) (λ (a : ℕ). under_entry (find_entry es b a) (mstopped no_such_key) λ (c r : ℕ). on (Refer (Whole c r b) ∷ []))
      ∷ as_number (top ops) (λ (a : ℕ). under_entry (find_entry es b a) (on (Number 0 ∷ [])) λ (c r : ℕ). on (Number 1 ∷ []))
      ∷ cond (ltb (length fs + 1) max_frames)
      (mnext (mstate (mframe n b 0 [] (topmost takes ops ++ replicate others Empty)) (mframe s p at (drop takes ops) ls ∷ fs) rooms recs es (n + 1))) (mstopped too_many_frames)
      ∷ given fs (topmost takes ops) rooms recs es n (mframe s p at (drop takes ops) ls)
      ∷ mnext (mstate (mframe s p b (drop takes ops) ls) fs rooms recs es n)
      ∷ as_number (top ops) (λ (x : ℕ). mnext (mstate (mframe s p (cond (eqb x 0) (at + 1) b) (drop takes ops) ls) fs rooms recs es n))
      ∷ as_number (second ops) (λ (x : ℕ). as_number (top ops) λ (y : ℕ). calculates (calculation b x y))
      -- Freeze: the machine does not tell a read-only reference from a writable one
      ∷ on (top ops ∷ [])
      ∷ []
