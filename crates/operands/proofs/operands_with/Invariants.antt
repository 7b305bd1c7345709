-- The invariant: the procedures before this one are accepted.
use Rattle.operands.specs.Operands.{operands_with, code_fault}
use Rattle.declarations.proofs.Laws.{pass_from}
use mathlib.Core.Path.{◌≡◌}
use Rattle.operands.proofs.operands_with.Given as goal

abbrev pub invariant-loop-own : goal.invariant-loop-own
invariant-loop-own l = operands_with l.fn.index l.table ≡ pass_from (λ q. code_fault l.table l.fn.index) l.fn.index l.table l.own-index
