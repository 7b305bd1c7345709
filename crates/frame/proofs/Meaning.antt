-- What the state and the cells after an instruction mean on lists, and what holds of them before one.
use Prim.Native.Nat.{ℕ, ◌+◌, ◌≤◌, ◌<◌}
use mathlib.Core.Path.{◌≡◌}
use mathlib.Core.Bool.{true, false, cond}
use mathlib.Core.List.{List}
use lib.Dec.{eqb}
use lib.ListN.{length, get_or}
use Rattle.state.specs.declared.Operand.{Operand}
use Rattle.state.specs.declared.Operand.TheVariants.{Empty}
use Rattle.state.specs.declared.frames.State.{State}
use Rattle.state.specs.code.Coding.{is_record, second_of, third_of}
use Rattle.state.specs.code.Layout.{suspended_cell, room_cell, all_cells}
use Rattle.state.specs.code.Frames.{stop_of, dropped}
use Rattle.machine.specs.code.Machine.{MOutcome, mnext, mfinished, mstopped, mbroken, topmost, doings}
use Rattle.machine.specs.code.Views.{operands_in, locals_in, below_in, rooms_in, entries_in, view_of}
use Rattle.frame.specs.code.Turning.{Turning, after, done, broken}

-- an outcome by why the call ended; `k` results are returned where it is done
abbrev pub outcome_by : ℕ → ℕ → List Operand → State → MOutcome
outcome_by stop k cs s =
    cond (eqb stop 0) (mnext (view_of cs s))
    (cond (eqb stop done) (mfinished (topmost k (operands_in cs s)) (view_of cs (dropped s k)))
    (cond (eqb stop broken) mbroken (mstopped stop)))

abbrev pub outcome_of : ℕ → Turning → MOutcome
outcome_of k (after s cs) = outcome_by (stop_of s) k cs s

-- what the machine on lists does at this state by opcode a; see `doings`
abbrev pub doing : (b d kind takes others : ℕ) → List Operand → State → ℕ → MOutcome
doing b d kind takes others cs s a =
    get_or (doings b d kind takes others s.serial s.procedure s.at (operands_in cs s) (locals_in cs s) (below_in cs s.depth) (rooms_in cs) s.records (entries_in cs s.entries) s.frames) a mbroken

-- The rooms below `free` are in use, and those from `rooms` on are not.
pub record Tidy (cs : List Operand) (s : State) : Type 0 where
  pub in_use : (r : ℕ) → r < s.free → is_record (get_or cs (room_cell r) Empty) ≡ true
  pub unused : (r : ℕ) → s.rooms ≤ r → r < 128 → is_record (get_or cs (room_cell r) Empty) ≡ false
  pub free_low : s.free ≤ 128

-- What holds before an instruction: the cells are all there, the call runs, and what lies in the cells lies within its bounds.
pub record Stands (cs : List Operand) (s : State) : Type 0 where
  pub whole : length cs ≡ all_cells
  pub running : stop_of s ≡ 0
  pub named : s.procedure < 65536
  pub inside : s.at < 65535
  pub low : s.height ≤ 16
  pub few : s.count ≤ 16
  pub shallow : s.depth < 16
  pub suspended_low : (d : ℕ) → d < s.depth → second_of (get_or cs (suspended_cell d) Empty) ≤ 16
  pub suspended_few : (d : ℕ) → d < s.depth → third_of (get_or cs (suspended_cell d) Empty) ≤ 16
  pub fields : (r : ℕ) → r < 128 → second_of (get_or cs (room_cell r) Empty) ≤ 8
  pub stored : s.entries ≤ 64
  pub tidy : Tidy cs s

-- What an instruction keeps.
abbrev pub Kept : List Operand → State → Turning → Type 0
Kept cs s (after s' cs') = (length cs' ≡ length cs) × (Tidy cs s → Tidy cs' s') × (s'.records ≤ s.records + 1) × (s'.frames ≤ s.frames + 1)
