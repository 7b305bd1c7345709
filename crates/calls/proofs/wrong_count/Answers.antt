use Rattle.declarations.specs.Program.{parameter_kinds}
use Rattle.steps.proofs.Laws.{length-kinds}
use Rattle.calls.proofs.wrong_count.Goals as goal

pub returns : goal.returns
unfolding parameter_kinds
returns c = rw (length-kinds, ← c.parameters_of.ensures)
