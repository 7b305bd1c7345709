-- The invariant: i lies between the smaller bound and `to`, and the kinds of the rows from i to before `to` are taken.
use Prim.Native.Nat.{◌≤◌, min}
use mathlib.Core.Path.{◌≡◌}
use Rattle.declarations.specs.Program.{kinds_of}
use Rattle.effects.specs.Kinds.{view, taken_all}
use Rattle.effects.proofs.Stack.take_rows.Given as goal

abbrev pub invariant-loop-i : goal.invariant-loop-i
invariant-loop-i g l = (l.i ≤ l.to) × (min l.from l.to ≤ l.i) × (view g.F.Fault.fault_number l.kinds l.stack ≡ taken_all (kinds_of l.table l.i l.to) (view g.F.Fault.fault_number l.kinds l.initial.stack))
