-- The run of fields ends within the table, and so fits.
use native.Mathlib.Omega.{arith}
use Rattle.laws.proofs.Lists.{count-few}
use Rattle.table.specs.Format.{module_kind}
use Rattle.table.specs.Rows.{is_kind}
use Rattle.table.specs.Index.{owner_at, type_at}
use Rattle.table.proofs.Laws.{run_within}
use Rattle.table.proofs.index.type_at.Goals as goal

pub owner_of-requires : goal.owner_of-requires
owner_of-requires c = omega (arith, count-few (is_kind c.args.table.now module_kind) c.args.i)

pub overflow_cast-result-2 : goal.overflow_cast-result-2
overflow_cast-result-2 c = omega (arith, run_within _ _ _ _ c.run_end-end.ensures (omega arith))

pub returns : goal.returns
unfolding type_at owner_at
returns c = cc
