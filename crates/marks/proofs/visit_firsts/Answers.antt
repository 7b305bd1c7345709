use mathlib.Core.Path.{sym, ◌∙◌}
use native.Mathlib.Omega.{arith}
use Rattle.marks.proofs.Laws.{up_next, up_end, first_some, first_none}
use Rattle.marks.proofs.visit_firsts.Goals as goal

pub loop-r-preserved-then-kind_at-eq-PROCEDURE : goal.loop-r-preserved-then-kind_at-eq-PROCEDURE
loop-r-preserved-then-kind_at-eq-PROCEDURE c =
    let l = c.loop-r in
    let v = c.visit.ensures in
    let same = l.invariant.1 in
    (up_next _ l.r _ _ l.invariant.0 (omega arith) (first_some _ _ _ _ c.kind_at.ensures c.if-kind_at-eq-PROCEDURE.true v.visits), (v.same_slices.0 ∙ same.0, v.same_slices.1 ∙ same.1))

pub loop-r-preserved : goal.loop-r-preserved
loop-r-preserved c =
    let l = c.loop-r in
    (up_next _ l.r _ _ l.invariant.0 (omega arith) (first_none _ _ _ _ c.kind_at.ensures c.if-kind_at-eq-PROCEDURE.false), l.invariant.1)

pub returns-clause-visits : goal.returns-clause-visits
returns-clause-visits c = sym (up_end _ c.loop-r.r _ _ c.loop-r.invariant.0 (omega arith))
