-- What the methods of the state give, and what they do to the cells.
use Rattle.std.specs.Prelude.{ℕ, ◌+◌, ◌-◌, ◌*◌, ◌/◌, ◌%◌, cond, List, leb, ltb, eqb, get_or, set}
use Rattle.state.specs.declared.Operand.{Operand}
use Rattle.state.specs.declared.Operand.TheVariants.{Empty, Number, Record}
use Rattle.state.specs.declared.frames.State.{State}
use Rattle.state.specs.declared.stops.Stop.{Stop}
use Rattle.state.specs.code.Coding.{number_of, first_of, second_of, third_of}
use Rattle.state.specs.code.Cells.{copied, moved, emptied}
use Rattle.state.specs.code.Stops.{number_of as end_number}
use Rattle.state.specs.code.Layout.{operand_cell, local_cell, suspended_cell}

unfoldable pub next_serial : ℕ → ℕ
next_serial n = cond (ltb n 4294967295) (n + 1) n

abbrev pub with_height : State → ℕ → State
with_height s h = record { serial = s.serial; procedure = s.procedure; at = s.at; depth = s.depth; height = h; count = s.count; stop = s.stop; records = s.records; frames = s.frames; entries = s.entries; rooms = s.rooms; free = s.free }

-- the number of why its call ended, 0 while it runs
abbrev pub stop_of : State → ℕ
stop_of s = s.stop

-- an operand pushed; the operand number k from the top; k operands taken; at instruction i; the call ended, by a number and by the stop that has it
abbrev pub pushed : State → State
pushed s = with_height s (cond (ltb s.height 16) (s.height + 1) s.height)

abbrev pub pushed_in : List Operand → State → Operand → List Operand
pushed_in cs s x = cond (ltb s.height 16) (set cs (operand_cell s.depth + s.height) x) cs

abbrev pub top_at : List Operand → State → ℕ → Operand
top_at cs s k = cond (ltb k s.height) (get_or cs (operand_cell s.depth + (s.height - 1 - k)) Empty) Empty

abbrev pub dropped : State → ℕ → State
dropped s k = with_height s (s.height - k)

abbrev pub gone_to : State → ℕ → State
gone_to s i = record { serial = s.serial; procedure = s.procedure; at = i; depth = s.depth; height = s.height; count = s.count; stop = s.stop; records = s.records; frames = s.frames; entries = s.entries; rooms = s.rooms; free = s.free }

abbrev pub gone_on : State → State
gone_on s = gone_to s (cond (ltb s.at 65535) (s.at + 1) s.at)

abbrev pub stopped_with : State → ℕ → State
stopped_with s k = record { serial = s.serial; procedure = s.procedure; at = s.at; depth = s.depth; height = s.height; count = s.count; stop = k; records = s.records; frames = s.frames; entries = s.entries; rooms = s.rooms; free = s.free }

abbrev pub ended_with : State → Stop → State
ended_with s k = stopped_with s (end_number k)

-- a local pushed, emptied, filled from the top
abbrev pub loaded_in : List Operand → State → ℕ → List Operand
loaded_in cs s l = cond (ltb s.height 16) (cond (ltb l s.count) (copied cs (operand_cell s.depth + s.height) (local_cell s.depth + l)) (set cs (operand_cell s.depth + s.height) Empty)) cs

abbrev pub cleared_in : List Operand → State → ℕ → List Operand
cleared_in cs s l = cond (ltb l s.count) (set cs (local_cell s.depth + l) Empty) cs

abbrev pub stored_in : List Operand → State → ℕ → List Operand
stored_in cs s l = cond (ltb 0 s.height) (cond (ltb l s.count) (copied cs (local_cell s.depth + l) (operand_cell s.depth + (s.height - 1))) cs) cs

-- a frame suspended, and the one below running again
abbrev pub suspended_in : List Operand → State → List Operand
suspended_in cs s = set (set cs (suspended_cell s.depth) (Record s.serial s.height s.count)) (suspended_cell s.depth + 1) (Number (65536 * s.procedure + s.at))

abbrev pub resumed_at : List Operand → State → ℕ → State
resumed_at cs s d = record {
  serial = first_of (get_or cs (suspended_cell d) Empty);
  procedure = number_of (get_or cs (suspended_cell d + 1) Empty) / 65536 % 65536;
  at = number_of (get_or cs (suspended_cell d + 1) Empty) % 65536;
  depth = d;
  height = second_of (get_or cs (suspended_cell d) Empty);
  count = third_of (get_or cs (suspended_cell d) Empty);
  stop = s.stop;
  records = s.records;
  frames = s.frames;
  entries = s.entries;
  rooms = s.rooms;
  free = s.free;
}

abbrev pub resumed : List Operand → State → State
resumed cs s = cond (eqb s.depth 0) s (resumed_at cs s (s.depth - 1))

-- a frame begun above the running one, its first locals the k operands above the top
abbrev pub entered : State → ℕ → ℕ → State
entered s procedure count = record { serial = s.frames; procedure = procedure; at = 0; depth = cond (ltb s.depth 255) (s.depth + 1) s.depth; height = 0; count = count; stop = s.stop; records = s.records; frames = next_serial s.frames; entries = s.entries; rooms = s.rooms; free = s.free }

abbrev pub entered_in : List Operand → State → ℕ → ℕ → List Operand
entered_in cs s k count = moved (emptied cs (operand_cell s.depth + 48 + k) (count - k)) (operand_cell s.depth + 48) (operand_cell s.depth + s.height) k

-- what k cells hold pushed
abbrev pub received : State → ℕ → State
received s k = with_height s (cond (leb s.height 16) (cond (leb k (16 - s.height)) (s.height + k) s.height) s.height)

abbrev pub received_in : List Operand → State → ℕ → ℕ → List Operand
received_in cs s from k = cond (leb s.height 16) (cond (leb k (16 - s.height)) (moved cs (operand_cell s.depth + s.height) from k) cs) cs
