-- The invariant: the rest of the pass.
use mathlib.Core.Path.{◌≡◌}
use Rattle.declarations.specs.Program.{code_verdict}
use Rattle.operands.proofs.Laws.{verdict_from}
use Rattle.leaks.specs.Leaks.{leak_from}
use Rattle.leaks.specs.code.Read.{marked_in}
use Rattle.leaks.proofs.judge_code.Given as goal

abbrev pub invariant-loop-i : goal.invariant-loop-i
invariant-loop-i l = code_verdict (leak_from l.table l.index l.own (marked_in l.nodes l.own)) l.own.code l.n ≡ verdict_from (leak_from l.table l.index l.own (marked_in l.nodes l.own)) l.own.code l.n l.i
