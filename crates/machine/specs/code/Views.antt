-- What the state and the cells of the code are on lists.
use Rattle.std.specs.Prelude.{ℕ, zero, suc, ◌+◌, ◌/◌, ◌%◌, ◌≤◌, ◌<◌, ◌≡◌, List, [], ◌∷◌, get_or}
use Rattle.std.proofs.Math.Option.{Option, none, some}
use Rattle.state.specs.declared.Operand.{Operand}
use Rattle.state.specs.declared.Operand.TheVariants.{Empty, Number, Record, Refer}
use Rattle.state.specs.declared.frames.State.{State}
use Rattle.state.specs.code.Coding.{number_of, first_of, second_of, third_of}
use Rattle.state.specs.code.Layout.{operand_cell, local_cell, suspended_cell, entry_cell, room_cell}
use Rattle.machine.specs.code.Machine.{MFrame, mframe, MRoom, mroom, MEntry, mentry, MState, mstate}

-- the n cells from b on, the first first; the last first
unfoldable pub up_from : List Operand → ℕ → ℕ → List Operand
up_from cs b zero = []
up_from cs b (suc n) = get_or cs b Empty ∷ up_from cs (suc b) n

unfoldable pub down_from : List Operand → ℕ → ℕ → List Operand
down_from cs b zero = []
down_from cs b (suc n) = get_or cs (b + n) Empty ∷ down_from cs b n

-- the operands, the top first, and the locals of the running frame; that frame
abbrev pub operands_in : List Operand → State → List Operand
operands_in cs s = down_from cs (operand_cell s.depth) s.height

abbrev pub locals_in : List Operand → State → List Operand
locals_in cs s = up_from cs (local_cell s.depth) s.count

abbrev pub frame_in : List Operand → State → MFrame
frame_in cs s = mframe s.serial s.procedure s.at (operands_in cs s) (locals_in cs s)

-- a suspended frame, by its two cells; the frames below depth d, the caller first
abbrev pub suspended_by : List Operand → ℕ → Operand → Operand → MFrame
suspended_by cs d x y = mframe (first_of x) (number_of y / 65536 % 65536) (number_of y % 65536) (down_from cs (operand_cell d) (second_of x)) (up_from cs (local_cell d) (third_of x))

abbrev pub suspended_at : List Operand → ℕ → MFrame
suspended_at cs d = suspended_by cs d (get_or cs (suspended_cell d) Empty) (get_or cs (suspended_cell d + 1) Empty)

unfoldable pub below_in : List Operand → ℕ → List MFrame
below_in cs zero = []
below_in cs (suc d) = suspended_at cs d ∷ below_in cs d

-- f b, f (b + 1), .., n in all
unfoldable pub tab : {A : Type 0} → (ℕ → A) → ℕ → ℕ → List A
tab f b zero = []
tab f b (suc n) = f b ∷ tab f (suc b) n

-- a room, by its head; the rooms
abbrev pub room_by : List Operand → ℕ → Operand → Option MRoom
room_by cs r Empty = none
room_by cs r (Number n) = none
room_by cs r (Record s k y) = some (mroom s y (up_from cs (room_cell r + 1) k))
room_by cs r (Refer x) = none

unfoldable pub room_in : List Operand → ℕ → Option MRoom
room_in cs r = room_by cs r (get_or cs (room_cell r) Empty)

abbrev pub rooms_in : List Operand → List (Option MRoom)
rooms_in cs = tab (room_in cs) 0 128

-- an entry; the first n entries, the last of them first
abbrev pub entry_by : Operand → Operand → MEntry
entry_by x y = mentry (third_of y) (number_of x) (first_of y) (second_of y)

abbrev pub entry_in : List Operand → ℕ → MEntry
entry_in cs i = entry_by (get_or cs (entry_cell i) Empty) (get_or cs (entry_cell i + 1) Empty)

unfoldable pub entries_in : List Operand → ℕ → List MEntry
entries_in cs zero = []
entries_in cs (suc n) = entry_in cs n ∷ entries_in cs n

-- the whole state
abbrev pub view_of : List Operand → State → MState
view_of cs s = mstate (frame_in cs s) (below_in cs s.depth) (rooms_in cs) s.records (entries_in cs s.entries) s.frames

-- the cells from a on, as far as b, hold the same
abbrev pub Same : ℕ → ℕ → List Operand → List Operand → Type 0
Same a b cs ds = (i : ℕ) → a ≤ i → i < b → get_or ds i Empty ≡ get_or cs i Empty
