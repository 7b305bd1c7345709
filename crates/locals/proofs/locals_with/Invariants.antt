-- The invariant: the procedures before this one are accepted.
use Rattle.locals.specs.Locals.{local_fault}
use Rattle.locals.specs.code.Within.{locals_within}
use Rattle.declarations.proofs.Laws.{pass_from}
use Rattle.declarations.specs.code.Limits.{limited}
use mathlib.Core.Path.{◌≡◌}
use Rattle.locals.proofs.locals_with.Given as goal

abbrev pub invariant-loop-own : goal.invariant-loop-own
invariant-loop-own l = locals_within l.fn.index l.table ≡ pass_from (λ q p. limited l.table p (local_fault l.table p)) l.fn.index l.table l.own-index
