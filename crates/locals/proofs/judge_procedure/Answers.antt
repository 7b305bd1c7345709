use mathlib.Core.Path.{sym, ◌∙◌}
use Rattle.locals.proofs.Laws.{procedure_verdict, within}
use Rattle.laws.specs.First.{first_fault}
use Rattle.declarations.specs.Program.{code_verdict}
use Rattle.declarations.proofs.Laws.{limited_in, limited_out}
use native.Mathlib.Omega.{arith}
use Rattle.locals.proofs.judge_procedure.Goals as goal
use Rattle.locals.proofs.judge_procedure.Goals.{then-n-eq0-via-then-n-eq0, then-n-eq0-via-else-n-eq0+then-over_limits}

pub returns-then-n-eq0 : goal.returns-then-n-eq0
unfolding code_verdict first_fault
returns-then-n-eq0 c = elim c.then-n-eq0.branch [
  | then-n-eq0-via-then-n-eq0 w ↦ rw w.if-n-eq0.true
  | then-n-eq0-via-else-n-eq0+then-over_limits w ↦ sym (rw c.requires (limited_out _ _ _ (sym w.over_limits.ensures ∙ w.if-over_limits.true)))
]

pub spread_locals-requires : goal.spread_locals-requires
spread_locals-requires c = omega (arith, within _ _ c.requires c.over_limits.ensures c.if-over_limits.false, c.local_count-count.ensures)

pub record_locals-records-requires : goal.record_locals-records-requires
record_locals-records-requires c = omega (arith, within _ _ c.requires c.over_limits.ensures c.if-over_limits.false, c.local_count-count.ensures)

pub judge_code-requires : goal.judge_code-requires
judge_code-requires c = omega (arith, within _ _ c.requires c.over_limits.ensures c.if-over_limits.false, c.local_count-count.ensures)

pub returns : goal.returns
returns c =
    let small = within _ _ c.requires c.over_limits.ensures c.if-over_limits.false in
    rw (limited_in _ c.args.own _ (sym c.over_limits.ensures ∙ c.if-over_limits.false))
    (procedure_verdict _ c.args.code.now c.args.own c.spread_locals.new.nodes _ _ _ _ c.requires c.local_count-count.ensures c.parameter_count-params.ensures c.record_locals-records.ensures small.0 c.spread_locals.ensures c.judge_code.ensures)
