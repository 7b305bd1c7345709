-- The invariant: what is left of p and the procedures above row i make p.
use Prim.Native.Nat.{◌≤◌, ◌+◌}
use mathlib.Core.Path.{◌≡◌}
use Rattle.laws.specs.Lists.{count}
use Rattle.table.specs.Format.{procedure_kind}
use Rattle.table.specs.Rows.{is_kind}
use Rattle.table.proofs.procedures.procedure_row.Given as goal

abbrev pub invariant-loop-i : goal.invariant-loop-i
invariant-loop-i l = (l.i ≤ l.n) × (l.p ≡ l.left + count (is_kind l.table procedure_kind) l.i)
