-- The invariant: the procedures before this one are accepted.
use mathlib.Core.Path.{◌≡◌}
use Rattle.declarations.proofs.Laws.{pass_from}
use Rattle.leaks.specs.code.Read.{read_fault, read_pass}
use Rattle.leaks.proofs.judge_marks.Given as goal

abbrev pub invariant-loop-own : goal.invariant-loop-own
invariant-loop-own l = read_pass l.table l.fn.index l.nodes ≡ pass_from (read_fault l.table l.fn.index l.nodes) l.fn.index l.table l.own-index
