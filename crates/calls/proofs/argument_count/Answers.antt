use Prim.Native.Nat.{◌+◌, ◌-◌}
use mathlib.Core.Path.{ap}
use lib.ListN.{length}
use Rattle.table.specs.Rows.{row_count}
use Rattle.table.proofs.Laws.{is-kind, not-kind}
use Rattle.semantics.specs.Calls.{argument_row}
use Rattle.calls.proofs.Laws.{arguments_stop, arguments-end, count_more}
use native.Mathlib.Omega.{arith}
use Rattle.calls.proofs.argument_count.Goals as goal

pub returns-then-n-i : goal.returns-then-n-i
returns-then-n-i c = omega (arith, ap length (arguments-end c.args.list.now (c.args.i + 1) (row_count c.args.list.now) (omega arith)))

pub returns-then-kind_at-ne-ARGUMENT : goal.returns-then-kind_at-ne-ARGUMENT
returns-then-kind_at-ne-ARGUMENT c = omega (arith, c.loop-j.invariant, ap length (arguments_stop c.args.list.now c.loop-j.j (row_count c.args.list.now - c.loop-j.j) (not-kind _ _ argument_row c.kind_at.ensures c.if-kind_at-ne-ARGUMENT.true)))

pub loop-j-preserved : goal.loop-j-preserved
loop-j-preserved c = count_more _ _ _ _ c.loop-j.auto.j c.loop-j-test.true (is-kind _ _ argument_row c.kind_at.ensures c.if-kind_at-ne-ARGUMENT.false) c.loop-j.invariant

pub returns : goal.returns
returns c = omega (arith, c.loop-j.invariant, ap length (arguments-end c.args.list.now c.loop-j.j (row_count c.args.list.now) c.loop-j-test.false))
