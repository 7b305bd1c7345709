-- The invariant: no row before row i is malformed.
use mathlib.Core.Path.{◌≡◌}
use Rattle.laws.proofs.First.{from}
use Rattle.table.specs.Verdicts.{Accepted, Refused}
use Rattle.policy.specs.Policy.{rule_fault, file_of}
use Rattle.policy.proofs.file_verdict.Given as goal

abbrev pub invariant-loop-i : goal.invariant-loop-i
invariant-loop-i l = file_of l.rules ≡ from Accepted Refused (rule_fault l.rules) l.n l.i
