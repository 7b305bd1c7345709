use Prim.Native.Nat.{◌/◌, ◌%◌}
use mathlib.Core.Path.{◌≡◌}
use mathlib.Core.Bool.{cond, false}
use lib.Dec.{eqb}
use lib.ListN.{length}
use Rattle.state.specs.code.Cells.{cells_of}
use Rattle.interpreter.specs.code.Run.{run_from, same_from}
use Rattle.interpreter.proofs.run.Given as goal

abbrev pub invariant-loop-left : goal.invariant-loop-left
invariant-loop-left l = (length l.cells ≡ length l.initial.cells) × (run_from l.table l.index l.budget (cells_of l.initial.cells) l.initial.now ≡ run_from l.table l.index (l.left / 2) (cells_of l.cells) l.now)
    × (same_from l.table l.index l.budget (cells_of l.initial.cells) l.initial.now ≡ cond (eqb (l.left % 2) 0) (same_from l.table l.index (l.left / 2) (cells_of l.cells) l.now) false)

abbrev pub decreases-loop-left : goal.decreases-loop-left
decreases-loop-left l = l.left / 2
