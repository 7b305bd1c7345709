-- Pack and Unpack.
use Rattle.std.specs.Prelude.{ℕ, ◌+◌, ◌-◌, ◌%◌, cond, List, leb, ltb, get_or, set}
use Rattle.state.specs.declared.Operand.{Operand}
use Rattle.state.specs.declared.Operand.TheVariants.{Empty, Number, Record, Refer}
use Rattle.state.specs.declared.frames.State.{State}
use Rattle.state.specs.declared.stops.Stop.TheVariants.{TooManyRecords, Broken}
use Rattle.state.specs.code.Coding.{second_of}
use Rattle.state.specs.code.Cells.{moved}
use Rattle.state.specs.code.Layout.{operand_cell, room_cell}
use Rattle.state.specs.code.Frames.{next_serial, top_at, dropped, gone_on, received, received_in}
use Rattle.state.specs.code.Rooms.{is_live, first_free}
use Rattle.frame.specs.code.Turning.{Turning, after, ends, settled}

-- a record made in room r, and the one in room m broken up: which rooms may be in use, and which may be free
abbrev pub packed_state : State → ℕ → State
packed_state s r = record { serial = s.serial; procedure = s.procedure; at = s.at; depth = s.depth; height = s.height; count = s.count; stop = s.stop; records = next_serial s.records; frames = s.frames; entries = s.entries; rooms = cond (ltb r 255) (cond (leb s.rooms r) (r + 1) s.rooms) s.rooms; free = cond (ltb r 255) (r + 1) s.free }

abbrev pub unpacked_state : State → ℕ → State
unpacked_state s m = record { serial = s.serial; procedure = s.procedure; at = s.at; depth = s.depth; height = s.height; count = s.count; stop = s.stop; records = s.records; frames = s.frames; entries = s.entries; rooms = s.rooms; free = cond (ltb m s.free) m s.free }

-- a record of type y made of the k top operands in room r
abbrev pub packed_in : List Operand → State → ℕ → ℕ → ℕ → Turning
packed_in cs s k y r =
    settled (set (moved cs (room_cell r + 1) (operand_cell s.depth + (s.height - k)) k) (room_cell r) (Record s.records k y)) (packed_state s r) k (Record s.records r y)

abbrev pub pack_of : List Operand → State → ℕ → ℕ → Turning
pack_of cs s k b = cond (leb 128 (first_free cs s.free (128 - s.free))) (ends cs s TooManyRecords) (packed_in cs s (k % 256) (b % 256) (first_free cs s.free (128 - s.free)))

-- the record c in room m broken up
abbrev pub unpacked_at : List Operand → State → ℕ → ℕ → Turning
unpacked_at cs s m k = after (gone_on (received (dropped (unpacked_state s m) 1) k)) (set (received_in cs (dropped (unpacked_state s m) 1) (room_cell m + 1) k) (room_cell m) Empty)

abbrev pub unpacked_from : List Operand → State → ℕ → ℕ → Turning
unpacked_from cs s c m = cond (is_live (get_or cs (room_cell m) Empty) c) (unpacked_at cs s m (second_of (get_or cs (room_cell m) Empty))) (ends cs s Broken)

abbrev pub unpacked_top : List Operand → State → Operand → Turning
unpacked_top cs s Empty = ends cs s Broken
unpacked_top cs s (Number n) = ends cs s Broken
unpacked_top cs s (Record c m y) = unpacked_from cs s c m
unpacked_top cs s (Refer r) = ends cs s Broken

abbrev pub unpack_of : List Operand → State → Turning
unpack_of cs s = unpacked_top cs s (top_at cs s 0)
