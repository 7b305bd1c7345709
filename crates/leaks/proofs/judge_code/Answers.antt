use mathlib.Core.Path.{sym, ◌∙◌}
use Rattle.operands.proofs.Laws.{verdict_start, verdict_next, verdict_refused, verdict_end}
use Rattle.leaks.proofs.Laws.{fault_is}
use Rattle.leaks.proofs.judge_code.Goals as goal

pub loop-i-init : goal.loop-i-init
loop-i-init c = verdict_start _ _ _

pub returns-in-Some : goal.returns-in-Some
returns-in-Some c =
    let fault = fault_is _ _ c.args.index.now c.args.own c.args.nodes.now _ _ c.loop-i.i c.requires.0 c.row_at-row.ensures c.procedure_in-callee.ensures c.in-Some.ensures in
    rw c.at.ensures (sym (c.loop-i.invariant ∙ verdict_refused _ _ _ _ c.loop-i-test.true fault))

pub loop-i-preserved : goal.loop-i-preserved
loop-i-preserved c =
    let fault = fault_is _ _ c.args.index.now c.args.own c.args.nodes.now _ _ c.loop-i.i c.requires.0 c.row_at-row.ensures c.procedure_in-callee.ensures c.in_default.ensures in
    c.loop-i.invariant ∙ verdict_next _ _ _ c.loop-i-test.true fault

pub returns : goal.returns
returns c = sym (c.loop-i.invariant ∙ verdict_end _ _ _ c.loop-i-test.false c.loop-i.auto.i-end)
