use native.Mathlib.Omega.{arith}
use Rattle.steps.proofs.Laws.{parameters_few}
use Rattle.steps.proofs.parameters_of.Goals as goal

pub overflow_cast-result : goal.overflow_cast-result
overflow_cast-result c = omega (arith, c.parameters_end-end.ensures, parameters_few c.args.table.now c.args.p)
