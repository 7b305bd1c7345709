-- MoveTo, MoveFrom, BorrowGlobal and Exists.
use Rattle.std.specs.Prelude.{ℕ, ◌+◌, ◌-◌, ◌%◌, cond, List, leb, ltb, get_or}
use Rattle.arithmetic.specs.Arithmetic.{truth}
use Rattle.state.specs.declared.Reference.TheVariants.{Record as Whole}
use Rattle.state.specs.declared.Operand.{Operand}
use Rattle.state.specs.declared.Operand.TheVariants.{Empty, Number, Record, Refer}
use Rattle.state.specs.declared.frames.State.{State}
use Rattle.state.specs.declared.stops.Stop.TheVariants.{KeyTaken, NoSuchKey, TooManyEntries, Broken}
use Rattle.state.specs.code.Coding.{first_of, second_of}
use Rattle.state.specs.code.Layout.{entry_cell}
use Rattle.state.specs.code.Frames.{top_at, dropped, gone_on}
use Rattle.state.specs.code.Entries.{last_under, added_in, removed_in}
use Rattle.frame.specs.code.Turning.{Turning, after, ends, settled}
use Rattle.frame.specs.code.Operations.{with_number}

abbrev pub with_entries : State → ℕ → State
with_entries s n = record { serial = s.serial; procedure = s.procedure; at = s.at; depth = s.depth; height = s.height; count = s.count; stop = s.stop; records = s.records; frames = s.frames; entries = n; rooms = s.rooms; free = s.free }

-- the entry under a key
abbrev pub found : List Operand → State → ℕ → ℕ → ℕ
found cs s y a = last_under cs y a s.entries s.entries

-- the record of entry i, of type y, and a reference to it
abbrev pub record_at : List Operand → ℕ → ℕ → Operand
record_at cs i y = Record (first_of (get_or cs (entry_cell i + 1) Empty)) (second_of (get_or cs (entry_cell i + 1) Empty)) y

abbrev pub reference_at : List Operand → ℕ → ℕ → Operand
reference_at cs i y = Refer (Whole (first_of (get_or cs (entry_cell i + 1) Empty)) (second_of (get_or cs (entry_cell i + 1) Empty)) y)

-- MoveTo
abbrev pub published_as : List Operand → State → ℕ → ℕ → ℕ → ℕ → Turning
published_as cs s y a c m =
    cond (ltb (found cs s y a) s.entries) (ends cs s KeyTaken)
    (cond (leb 64 s.entries) (ends cs s TooManyEntries) (after (gone_on (dropped (with_entries s (s.entries + 1)) 2)) (added_in cs s.entries y a c m)))

abbrev pub moved_to : List Operand → State → ℕ → ℕ → Operand → Turning
moved_to cs s y a Empty = ends cs s Broken
moved_to cs s y a (Number n) = ends cs s Broken
moved_to cs s y a (Record c m k) = published_as cs s y a c m
moved_to cs s y a (Refer r) = ends cs s Broken

abbrev pub move_to_of : List Operand → State → ℕ → Turning
move_to_of cs s b = with_number cs s (top_at cs s 0) λ (a : ℕ). moved_to cs s (b % 256) a (top_at cs s 1)

-- MoveFrom
abbrev pub taken_out : List Operand → State → ℕ → ℕ → Turning
taken_out cs s y i =
    cond (leb s.entries i) (ends cs s NoSuchKey)
    (settled (removed_in cs s.entries i) (with_entries s (s.entries - 1)) 1 (record_at cs i y))

abbrev pub move_from_of : List Operand → State → ℕ → Turning
move_from_of cs s b = with_number cs s (top_at cs s 0) λ (a : ℕ). taken_out cs s (b % 256) (found cs s (b % 256) a)

-- BorrowGlobal
abbrev pub global_at : List Operand → State → ℕ → ℕ → Turning
global_at cs s y i =
    cond (leb s.entries i) (ends cs s NoSuchKey)
    (settled cs s 1 (reference_at cs i y))

abbrev pub global_of : List Operand → State → ℕ → Turning
global_of cs s b = with_number cs s (top_at cs s 0) λ (a : ℕ). global_at cs s (b % 256) (found cs s (b % 256) a)

-- Exists
abbrev pub exists_of : List Operand → State → ℕ → Turning
exists_of cs s b = with_number cs s (top_at cs s 0) λ (a : ℕ). settled cs s 1 (Number (truth (ltb (found cs s (b % 256) a) s.entries)))
