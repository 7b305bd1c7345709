-- The invariant: the counts and the entries are those of the rows above row i.
use Prim.Native.Nat.{◌≤◌, ◌-◌}
use Rattle.table.proofs.Scan.{Scanned}
use Rattle.table.proofs.index.index_of.Given as goal

abbrev pub invariant-loop-i : goal.invariant-loop-i
invariant-loop-i l = (l.i ≤ l.n) × Scanned l.table l.i l.modules l.types l.procedures l.module_rows l.type_entries l.procedure_entries

abbrev pub decreases-loop-i : goal.decreases-loop-i
decreases-loop-i l = l.n - l.i
