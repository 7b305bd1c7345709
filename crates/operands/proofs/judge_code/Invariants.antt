-- The invariant: the kinds before instruction i, and the rest of the pass.
use mathlib.Core.Path.{◌≡◌}
use Rattle.table.specs.Verdicts.{number_of_reason}
use Rattle.declarations.specs.Program.{code_verdict}
use Rattle.effects.specs.Kinds.{view}
use Rattle.operands.specs.Operands.{code_fault, kinds_before}
use Rattle.operands.proofs.Laws.{verdict_from}
use Rattle.operands.proofs.judge_code.Given as goal

abbrev pub invariant-loop-i : goal.invariant-loop-i
invariant-loop-i l = record {
  kinds : view number_of_reason l.kinds l.stack ≡ kinds_before l.table l.index l.own l.i;
  verdict : code_verdict (code_fault l.table l.index l.own) l.own.code l.n ≡ verdict_from (code_fault l.table l.index l.own) l.own.code l.n l.i;
}
