use mathlib.Core.Path.{◌≡◌}
use lib.ListN.{length}
use Rattle.state.specs.code.Cells.{cells_of}
use Rattle.interpreter.specs.code.Calls.{freed}
use Rattle.interpreter.proofs.free_rooms.Given as goal

abbrev pub invariant-loop-j : goal.invariant-loop-j
invariant-loop-j l = (length l.cells ≡ length l.initial.cells) × (cells_of l.cells ≡ freed (cells_of l.initial.cells) l.r l.j)
