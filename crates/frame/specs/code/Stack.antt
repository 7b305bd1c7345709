-- Pop, LoadConst, MvLoc, CpLoc, StLoc and BorrowLoc.
use Rattle.std.specs.Prelude.{ℕ, ◌%◌, List}
use Rattle.state.specs.declared.Operand.{Operand}
use Rattle.state.specs.declared.Operand.TheVariants.{Number, Refer}
use Rattle.state.specs.declared.Reference.TheVariants.{Local}
use Rattle.state.specs.declared.frames.State.{State}
use Rattle.state.specs.code.Frames.{pushed, pushed_in, dropped, gone_on, loaded_in, cleared_in, stored_in}
use Rattle.frame.specs.code.Turning.{Turning, after}

abbrev pub popped_by : State → State
popped_by s = gone_on (dropped s 1)

-- an operand pushed, and on
abbrev pub pushing : List Operand → State → Operand → Turning
pushing cs s x = after (gone_on (pushed s)) (pushed_in cs s x)

abbrev pub const_of : List Operand → State → ℕ → Turning
const_of cs s n = pushing cs s (Number n)

abbrev pub move_of : List Operand → State → ℕ → Turning
move_of cs s l = after (gone_on (pushed s)) (cleared_in (loaded_in cs s l) s l)

abbrev pub copy_of : List Operand → State → ℕ → Turning
copy_of cs s l = after (gone_on (pushed s)) (loaded_in cs s l)

abbrev pub store_of : List Operand → State → ℕ → Turning
store_of cs s l = after (gone_on (dropped s 1)) (stored_in cs s l)

-- a reference to local l, of this kind
abbrev pub borrow_of : List Operand → State → ℕ → ℕ → Turning
borrow_of cs s l kind = pushing cs s (Refer (Local s.serial s.depth (l % 256) (kind % 65536)))
