use mathlib.Core.Path.{refl, ◌∙◌}
use native.Mathlib.Omega.{arith}
use borrow.Author.Rules.{rules}
use Rattle.marks.proofs.Laws.{stands_first, stands_tail, stands_room, stands_queued, stands_next, stands_done}
use Rattle.marks.proofs.find_arrivals.Goals as goal

pub loop-head-init : goal.loop-head-init
loop-head-init c = let e = c.requires in (stands_first _ _ _ _ _ e.0 e.1 (omega arith) e.5 c.visit_firsts.ensures.visits, (refl, refl))

pub offset_bounds-search-head : goal.offset_bounds-search-head
offset_bounds-search-head c = omega (arith, stands_tail _ _ _ c.loop-head.invariant.0)

pub bounds-search-head : goal.bounds-search-head
bounds-search-head c = let stands = c.loop-head.invariant.0 in omega (arith, stands_tail _ _ _ stands, stands_room _ _ _ stands)

pub overflow_add-head : goal.overflow_add-head
overflow_add-head c = omega (arith, stands_tail _ _ _ c.loop-head.invariant.0)

pub visit_rows_after-requires : goal.visit_rows_after-requires
visit_rows_after-requires c =
    let h = stands_queued _ _ _ c.loop-head.invariant.0 c.loop-head-test.true in
    (omega (arith, h, c.requires), omega (arith, h, c.requires))

pub loop-head-smaller : goal.loop-head-smaller
loop-head-smaller c = omega (arith, stands_tail _ _ _ c.loop-head.invariant.0)

pub loop-head-preserved : goal.loop-head-preserved
loop-head-preserved c =
    let v = c.visit_rows_after.ensures in
    let same = c.loop-head.invariant.1 in
    (stands_next _ _ _ c.loop-head.invariant.0 c.requires.4 (omega arith) c.loop-head-test.true v.visits, (v.same_slices.0 ∙ same.0, v.same_slices.1 ∙ same.1))

pub returns : goal.returns
returns c = let done = stands_done _ _ _ c.loop-head.invariant.0 (omega arith) in search (rules, done)
