use Rattle.table.specs.Format.{max_instructions}
use Rattle.operands.proofs.Laws.{told_marks}
use Rattle.operands.proofs.judge_procedure.Goals as goal

pub invariant_of-code : goal.invariant_of-code
invariant_of-code c = record { marked = told_marks _ _ max_instructions c.mark_targets.ensures }
