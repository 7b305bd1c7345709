-- The invariant: no row above row i has a fault.
use Rattle.rows.specs.Rows.{rows_of, fault_at, above_at}
use Rattle.table.specs.Verdicts.{Accepted, Refused}
use Rattle.laws.proofs.First.{from}
use mathlib.Core.Path.{◌≡◌}
use Rattle.rows.proofs.rows_pass.Given as goal

abbrev pub invariant-loop-i : goal.invariant-loop-i
invariant-loop-i l = (l.above ≡ above_at l.table l.i) × (rows_of l.table ≡ from Accepted Refused (fault_at l.table) l.n l.i)
