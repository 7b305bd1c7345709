-- The invariant: the run from the start on ends where the run from row i on ends.
use Prim.Native.Nat.{◌≤◌, max}
use mathlib.Core.Path.{◌≡◌}
use Rattle.table.specs.Index.{run_end}
use Rattle.table.proofs.index.run_end.Given as goal

abbrev pub invariant-loop-i : goal.invariant-loop-i
invariant-loop-i l = (l.i ≤ max l.n l.start) × (run_end l.table l.n l.kind l.start ≡ run_end l.table l.n l.kind l.i)
