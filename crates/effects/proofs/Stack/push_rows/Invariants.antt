-- The invariant: the kinds of the rows from i on, pushed now, give what all of them give, pushed at the start.
use mathlib.Core.Path.{◌≡◌}
use Rattle.declarations.specs.Program.{kinds_of}
use Rattle.effects.specs.Kinds.{view, pushed_all}
use Rattle.effects.proofs.Stack.push_rows.Given as goal

abbrev pub invariant-loop-i : goal.invariant-loop-i
invariant-loop-i g l = pushed_all (kinds_of l.table l.from l.to) (view g.F.Fault.fault_number l.initial.kinds l.initial.stack) ≡ pushed_all (kinds_of l.table l.i l.to) (view g.F.Fault.fault_number l.kinds l.stack)
