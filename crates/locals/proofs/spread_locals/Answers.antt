use Rattle.locals.proofs.Parts.{length_part, parts_next}
use Rattle.locals.proofs.Laws.{nodes_fit}
use Rattle.locals.specs.Locals.{nodes_of}
use Rattle.table.specs.Rows.{row_count}
use lib.ListN.{length}
use Prim.Native.Nat.{◌+◌, ◌*◌, ◌≤◌}
use mathlib.Core.Path.{◌∙◌}
use native.Mathlib.Omega.{arith}
use Rattle.locals.proofs.spread_locals.Goals as goal

pub spread_local-requires : goal.spread_local-requires
spread_local-requires c =
    let fits : 2 * row_count c.args.code.now * c.loop-l.l + 2 * row_count c.args.code.now ≤ length c.loop-l.nodes = omega (arith, nodes_fit (row_count c.args.code.now) (c.loop-l.l + 1) (omega arith) (omega arith)) in
    (length_part _ _ c.loop-l.nodes fits, omega arith, omega arith)

pub loop-l-preserved : goal.loop-l-preserved
loop-l-preserved c =
    let fits : 2 * row_count c.args.code.now * c.loop-l.l + 2 * row_count c.args.code.now ≤ length c.loop-l.nodes = omega (arith, nodes_fit (row_count c.args.code.now) (c.loop-l.l + 1) (omega arith) (omega arith)) in
    parts_next (nodes_of c.args.code.now c.args.params) _ _ c.loop-l.nodes c.spread_local.new.visited fits (c.spread_local.auto.visited ∙ length_part _ _ c.loop-l.nodes fits) c.spread_local.ensures c.loop-l.invariant
