use mathlib.Core.Path.{◌≡◌}
use Rattle.laws.proofs.First.{from}
use Rattle.table.specs.Verdicts.{Accepted, Refused}
use Rattle.semantics.specs.Calls.{list_fault, list_of}
use Rattle.calls.proofs.list_verdict.Given as goal

abbrev pub invariant-loop-i : goal.invariant-loop-i
invariant-loop-i l = list_of l.table l.index l.list ≡ from Accepted Refused (list_fault l.table l.index l.list) l.n l.i
