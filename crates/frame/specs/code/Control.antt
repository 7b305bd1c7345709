-- Call, Ret and BranchCond.
use Rattle.std.specs.Prelude.{ℕ, ◌+◌, ◌-◌, ◌%◌, cond, List, eqb, leb}
use Rattle.state.specs.declared.Operand.{Operand}
use Rattle.state.specs.declared.frames.State.{State}
use Rattle.state.specs.declared.stops.Stop.TheVariants.{Done, TooManyFrames, Broken}
use Rattle.state.specs.code.Coding.{is_number, number_of}
use Rattle.state.specs.code.Layout.{operand_cell}
use Rattle.state.specs.code.Frames.{top_at, dropped, gone_to, gone_on, ended_with, suspended_in, resumed, entered, entered_in, received, received_in}
use Rattle.frame.specs.code.Turning.{Turning, after, ends}

-- n, at most 16
abbrev pub within : ℕ → ℕ
within n = cond (leb n 16) n 16

-- Call, with k arguments, of a procedure with `count` locals
abbrev pub called_in : List Operand → State → ℕ → ℕ → ℕ → Turning
called_in cs s procedure k count =
    cond (leb 15 s.depth) (ends cs s TooManyFrames) (after (entered (dropped s k) procedure count) (entered_in (suspended_in cs (dropped s k)) (dropped s k) k count))

abbrev pub call_of : List Operand → State → ℕ → ℕ → ℕ → Turning
call_of cs s b k count = called_in cs s b (k % 256) (within count)

-- Ret, with k results
abbrev pub returned_to : List Operand → State → ℕ → Turning
returned_to cs s k = after (gone_on (received (resumed cs s) k)) (received_in cs (resumed cs s) (operand_cell s.depth + (s.height - k)) k)

abbrev pub ret_of : List Operand → State → ℕ → Turning
ret_of cs s k = cond (eqb s.depth 0) (ends cs s Done) (returned_to cs s (k % 256))

-- BranchCond
abbrev pub branched_by : State → ℕ → Operand → State
branched_by s b x = cond (is_number x) (cond (eqb (number_of x) 0) (gone_on (dropped s 1)) (gone_to (dropped s 1) b)) (ended_with s Broken)

abbrev pub branch_of : List Operand → State → ℕ → State
branch_of cs s b = branched_by s b (top_at cs s 0)
