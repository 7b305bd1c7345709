use native.Mathlib.Omega.{arith}
use Rattle.steps.proofs.Laws.{parameters_few}
use Rattle.leaks.proofs.gives_mark.Goals as goal

pub some_marked-requires : goal.some_marked-requires
some_marked-requires c = (omega arith, omega (arith, c.parameters_end-end.ensures, parameters_few c.args.table.now c.args.callee))
