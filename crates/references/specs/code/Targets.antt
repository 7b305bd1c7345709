-- ReadRef, WriteRef and BorrowFld: where a reference leads, and what is done there.
use Rattle.std.specs.Prelude.{ℕ, Option, Some, None, Result, Ok, Err, ◌+◌, ◌/◌, ◌%◌, cond, List, eqb, ltb, get_or, set}
use Rattle.state.specs.declared.Reference.{Reference}
use Rattle.state.specs.declared.Reference.TheVariants.{Local, Field, Record as Whole}
use Rattle.state.specs.declared.Operand.{Operand}
use Rattle.state.specs.declared.Operand.TheVariants.{Empty, Number, Record, Refer}
use Rattle.state.specs.declared.frames.State.{State}
use Rattle.state.specs.declared.stops.Stop.{Stop}
use Rattle.state.specs.declared.stops.Stop.TheVariants.{StaleReference, Broken}
use Rattle.state.specs.code.Coding.{is_number, is_record, number_of, first_of, second_of, third_of}
use Rattle.state.specs.code.Cells.{held_at}
use Rattle.state.specs.code.Layout.{local_cell, suspended_cell, room_cell}
use Rattle.state.specs.code.Frames.{top_at, dropped, gone_on}
use Rattle.state.specs.code.Rooms.{is_live, field_cell}
use Rattle.references.specs.declared.targets.Place.{Place}
use Rattle.references.specs.declared.targets.Place.TheVariants.{Number as NumberAt, Record as RecordAt}
use Rattle.frame.specs.code.Turning.{Turning, after, ends, settled}
use Rattle.frame.specs.code.Operations.{with_number}

-- where a reference leads: to a number in a cell, to a record in a room, to nothing now, or to what no reference leads to
pub data Target : Type 0 where
  ToNumber : ℕ → Target
  ToRecord : ℕ → ℕ → Target
  Stale : Target
  Impossible : Target

-- the code's result that stands for it
abbrev pub place_of : Target → Result Place Stop
place_of (ToNumber o) = Ok (NumberAt o)
place_of (ToRecord c m) = Ok (RecordAt c m)
place_of Stale = Err StaleReference
place_of Impossible = Err Broken

-- the cell of local l of frame f at depth d
abbrev pub local_of : ℕ → ℕ → ℕ → ℕ → ℕ → Option ℕ
local_of serial f count d l = cond (eqb serial f) (cond (ltb l count) (Some (local_cell d + l)) None) None

abbrev pub local_in : List Operand → State → ℕ → ℕ → ℕ → Option ℕ
local_in cs s f d l =
    cond (eqb d s.depth) (local_of s.serial f s.count d l)
    (cond (ltb d s.depth) (local_of (first_of (get_or cs (suspended_cell d) Empty)) f (third_of (get_or cs (suspended_cell d) Empty)) d l) None)

-- a record in a room; what cell o of a local holds, and a local that may not be there; the same of a field; field j of a record in a room
abbrev pub in_room : List Operand → ℕ → ℕ → Target
in_room cs c m = cond (is_live (get_or cs (room_cell m) Empty) c) (ToRecord c m) Stale

abbrev pub in_cell : List Operand → ℕ → Operand → Target
in_cell cs o Empty = Stale
in_cell cs o (Number n) = ToNumber o
in_cell cs o (Record c m y) = in_room cs c m
in_cell cs o (Refer r) = Impossible

abbrev pub in_local : List Operand → Option ℕ → Target
in_local cs None = Stale
in_local cs (Some o) = in_cell cs o (get_or cs o Empty)

abbrev pub held_in : ℕ → Operand → Target
held_in o x = cond (is_number x) (ToNumber o) Impossible

abbrev pub in_place : List Operand → Option ℕ → Target
in_place cs None = Impossible
in_place cs (Some o) = held_in o (get_or cs o Empty)

abbrev pub in_field : List Operand → ℕ → ℕ → ℕ → Target
in_field cs c m j = cond (is_live (get_or cs (room_cell m) Empty) c) (in_place cs (field_cell cs m j)) Stale

abbrev pub target_of : List Operand → State → Reference → Target
target_of cs s (Local f d l k) = in_local cs (local_in cs s f d l)
target_of cs s (Field c m y j) = in_field cs c m j
target_of cs s (Whole c m y) = in_room cs c m

-- where an operand leads, which is a reference; where the top one does
abbrev pub target_by : List Operand → State → Operand → Target
target_by cs s Empty = Impossible
target_by cs s (Number n) = Impossible
target_by cs s (Record c m y) = Impossible
target_by cs s (Refer r) = target_of cs s r

abbrev pub target_top : List Operand → State → Target
target_top cs s = target_by cs s (top_at cs s 0)

-- ReadRef
abbrev pub read_at : List Operand → State → Target → Turning
read_at cs s (ToNumber o) = settled cs s 1 (Number (number_of (get_or cs o Empty)))
read_at cs s (ToRecord c m) = ends cs s Broken
read_at cs s Stale = ends cs s StaleReference
read_at cs s Impossible = ends cs s Broken

abbrev pub read_of : List Operand → State → Turning
read_of cs s = read_at cs s (target_top cs s)

-- WriteRef
abbrev pub written_at : List Operand → State → Target → ℕ → Turning
written_at cs s (ToNumber o) n = after (gone_on (dropped s 2)) (set cs o (Number n))
written_at cs s (ToRecord c m) n = ends cs s Broken
written_at cs s Stale n = ends cs s StaleReference
written_at cs s Impossible n = ends cs s Broken

abbrev pub write_of : List Operand → State → Turning
write_of cs s = with_number cs s (top_at cs s 1) λ (n : ℕ). written_at cs s (target_top cs s) n

-- BorrowFld
abbrev pub borrowed_as : List Operand → State → ℕ → ℕ → ℕ → ℕ → Operand → Turning
borrowed_as cs s c m y j x =
    cond (is_number x) (settled cs s 1 (Refer (Field c m y j)))
    (cond (is_record x) (settled cs s 1 (Refer (Whole (first_of x) (second_of x) (third_of x)))) (ends cs s Broken))

abbrev pub borrowed_in : List Operand → State → Target → ℕ → ℕ → Turning
borrowed_in cs s (ToNumber o) y j = ends cs s Broken
borrowed_in cs s (ToRecord c m) y j = borrowed_as cs s c m y j (held_at cs (field_cell cs m j))
borrowed_in cs s Stale y j = ends cs s StaleReference
borrowed_in cs s Impossible y j = ends cs s Broken

abbrev pub borrow_field_of : List Operand → State → ℕ → Turning
borrow_field_of cs s b = borrowed_in cs s (target_top cs s) (b / 8 % 256) (b % 8)
