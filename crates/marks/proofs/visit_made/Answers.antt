use Prim.Native.Nat.{◌-◌}
use mathlib.Core.Path.{◌≡◌, sym, ◌∙◌}
use native.Mathlib.Omega.{arith}
use Rattle.reach.specs.code.Search.{state, visit_all}
use Rattle.entries.proofs.Laws.{makes_other}
use Rattle.marks.specs.code.Search.{made_at}
use Rattle.marks.proofs.Laws.{up_next, up_end, made_some, made_none, made_missed}
use Rattle.marks.proofs.visit_made.Goals as goal
use Rattle.marks.proofs.visit_made.Goals.{else-arrived-via-then-arrived+then-row-eq-BORROW_FLD+else-makes_mark, else-arrived-via-then-arrived+else-row-eq-BORROW_FLD, else-arrived-via-else-arrived}

pub loop-r-preserved-then-makes_mark : goal.loop-r-preserved-then-makes_mark
loop-r-preserved-then-makes_mark c =
    let l = c.loop-r in
    let v = c.visit_next.ensures in
    let same = l.invariant.1 in
    (up_next _ l.r _ _ l.invariant.0 (omega arith) (made_some _ _ _ _ _ _ c.if-arrived.true (sym c.makes_mark.ensures ∙ c.if-makes_mark.true) c.row_at-row.ensures v.visits), (v.same_slices.0 ∙ same.0, v.same_slices.1 ∙ same.1))

pub loop-r-preserved : goal.loop-r-preserved
loop-r-preserved c =
    let l = c.loop-r in
    let a = c.args in
    let none : state l.search ≡ visit_all (state l.search) (made_at a.table.now a.index a.entries.now a.arrives.now (l.r - 1)) =
    elim c.else-arrived.branch [ else-arrived-via-then-arrived+then-row-eq-BORROW_FLD+else-makes_mark w ↦ made_none _ _ _ _ _ _ w.if-arrived.true (sym w.makes_mark.ensures ∙ w.if-makes_mark.false) | else-arrived-via-then-arrived+else-row-eq-BORROW_FLD w ↦ made_none _ _ _ _ _ _ w.if-arrived.true (sym (makes_other _ a.index _ c.row_at-row.ensures w.if-row-eq-BORROW_FLD.false)) | else-arrived-via-else-arrived w ↦ made_missed _ _ _ _ _ _ w.if-arrived.false ] in
    (up_next _ l.r _ _ l.invariant.0 (omega arith) none, l.invariant.1)

pub returns-clause-visits : goal.returns-clause-visits
returns-clause-visits c = sym (up_end _ c.loop-r.r _ _ c.loop-r.invariant.0 (omega arith))
