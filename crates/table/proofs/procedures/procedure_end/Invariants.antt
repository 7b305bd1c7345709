-- The invariant: the end from the start on is the end from row i on.
use Prim.Native.Nat.{◌≤◌, max}
use mathlib.Core.Path.{◌≡◌}
use Rattle.table.specs.Procedures.{procedure_end}
use Rattle.table.proofs.procedures.procedure_end.Given as goal

abbrev pub invariant-loop-i : goal.invariant-loop-i
invariant-loop-i l = (l.i ≤ max l.n l.start) × (procedure_end l.table l.start ≡ procedure_end l.table l.i)
