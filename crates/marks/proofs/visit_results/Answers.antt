use Prim.Native.Nat.{◌-◌}
use mathlib.Core.Path.{◌≡◌, refl, sym, ◌∙◌}
use native.Mathlib.Omega.{arith}
use Rattle.reach.specs.code.Search.{state, SameSlices, visit_all}
use Rattle.marks.specs.code.Search.{pushed_at}
use Rattle.marks.proofs.Laws.{pushed_yes, pushed_no, results_past, results_next, results_end}
use Rattle.marks.proofs.visit_results.Goals as goal
use Rattle.marks.proofs.visit_results.Goals.{else-arrived, then-arrived}

pub returns-then-results-r-clause-visits : goal.returns-then-results-r-clause-visits
returns-then-results-r-clause-visits c = results_past _ _ _ _ _ _ (omega arith)

pub loop-at-preserved : goal.loop-at-preserved
loop-at-preserved c =
    let l = c.loop-at in
    let a = c.args in
    let falls = a.sites.falls in
    let same = l.invariant.2 in
    let next : (state c.if-arrived.search ≡ visit_all (state l.search) (pushed_at a.sites.arrives.now a.results a.r (l.at - 1))) × SameSlices l.search c.if-arrived.search =
    elim c.if-arrived.branch [ then-arrived w ↦ rw w.search-is (pushed_yes a.sites.before.now _ _ _ _ _ w.if-arrived.true w.visit.ensures.visits, w.visit.ensures.same_slices) | else-arrived w ↦ rw w.search-is (pushed_no a.sites.before.now _ _ _ _ _ w.if-arrived.false, (refl, refl)) ] in
    (results_next _ _ _ _ (omega (arith, c.if-results-r.false)) l.at _ _ l.invariant.0 falls (omega arith) (omega arith) next.0, omega (arith, falls (l.at - 1)), (next.1.0 ∙ same.0, next.1.1 ∙ same.1))

pub returns-clause-visits : goal.returns-clause-visits
returns-clause-visits c = sym (results_end _ _ _ _ (omega (arith, c.if-results-r.false)) c.loop-at.at _ _ c.loop-at.invariant.0 (omega arith))
