-- The lines of the first entries are put.
use Prim.Native.Nat.{ℕ}
use mathlib.Core.List.{List, map}
use lib.ListN.{take}
use Rattle.state.specs.code.Cells.{cells_of}
use Rattle.machine.specs.code.Lists.{mentry_lines}
use Rattle.machine.specs.code.Views.{rooms_in, entry_in}
use Rattle.text.specs.code.Placing.{Puts}
use Rattle.store_text.proofs.put_lines.Given as goal

-- the lines of some entries
abbrev pub lines : List ℕ → List ℕ → List ℕ
lines cells numbers = mentry_lines (rooms_in (cells_of cells)) (map (entry_in (cells_of cells)) numbers)

abbrev pub invariant-loop-i : goal.invariant-loop-i
invariant-loop-i l = Puts l.initial.writer (lines l.cells (take l.i-index l.numbers)) l.writer
