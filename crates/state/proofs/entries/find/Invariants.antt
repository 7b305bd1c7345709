use Prim.Native.Nat.{◌≤◌}
use mathlib.Core.Path.{◌≡◌}
use Rattle.state.specs.code.Cells.{cells_of}
use Rattle.state.specs.code.Entries.{last_under}
use Rattle.state.proofs.entries.find.Given as goal

abbrev pub invariant-loop-i : goal.invariant-loop-i
invariant-loop-i l = (l.i ≤ l.n) × (last_under (cells_of l.cells) l.kind l.address l.n l.n ≡ last_under (cells_of l.cells) l.kind l.address l.n l.i)

abbrev pub decreases-loop-i : goal.decreases-loop-i
decreases-loop-i l = l.i
