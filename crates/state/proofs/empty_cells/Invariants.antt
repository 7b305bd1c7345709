use mathlib.Core.Path.{◌≡◌}
use lib.ListN.{length}
use Rattle.state.specs.code.Cells.{cells_of, emptied}
use Rattle.state.proofs.empty_cells.Given as goal

abbrev pub invariant-loop-j : goal.invariant-loop-j
invariant-loop-j l = (length l.cells ≡ length l.initial.cells) × (cells_of l.cells ≡ emptied (cells_of l.initial.cells) l.at l.j)
