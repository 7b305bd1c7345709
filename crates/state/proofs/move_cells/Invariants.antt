use mathlib.Core.Path.{◌≡◌}
use lib.ListN.{length}
use Rattle.state.specs.code.Cells.{cells_of, moved}
use Rattle.state.proofs.move_cells.Given as goal

abbrev pub invariant-loop-j : goal.invariant-loop-j
invariant-loop-j l = (length l.cells ≡ length l.initial.cells) × (cells_of l.cells ≡ moved (cells_of l.initial.cells) l.to l.from l.j)
