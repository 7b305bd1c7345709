-- Each run starts where the one above it ends, within the table, and so fits.
use native.Mathlib.Omega.{arith}
use Rattle.laws.proofs.Lists.{count-few}
use Rattle.table.specs.Format.{module_kind}
use Rattle.table.specs.Rows.{is_kind}
use Rattle.table.specs.Index.{owner_at, results_start, code_start, code_end, procedure_at}
use Rattle.table.proofs.Laws.{run_within}
use Rattle.table.proofs.index.procedure_at.Goals as goal

pub owner_of-requires : goal.owner_of-requires
owner_of-requires c = omega (arith, count-few (is_kind c.args.table.now module_kind) c.args.i)

pub overflow_cast-result-2 : goal.overflow_cast-result-2
overflow_cast-result-2 c = omega (arith, run_within _ _ _ _ c.run_end-results.ensures (omega arith))

pub overflow_cast-result-3 : goal.overflow_cast-result-3
overflow_cast-result-3 c =
    let r = run_within _ _ _ _ c.run_end-results.ensures (omega arith) in
    omega (arith, run_within _ _ _ _ c.run_end-code.ensures (omega arith))

pub overflow_cast-result-4 : goal.overflow_cast-result-4
overflow_cast-result-4 c =
    let r = run_within _ _ _ _ c.run_end-results.ensures (omega arith) in
    let s = run_within _ _ _ _ c.run_end-code.ensures (omega arith) in
    omega (arith, run_within _ _ _ _ c.run_end-end.ensures (omega arith))

pub returns : goal.returns
unfolding procedure_at code_end code_start results_start owner_at
returns c = cc
