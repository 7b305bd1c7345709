use Prim.Native.Nat.{◌/◌, ◌<◌}
use mathlib.Core.Path.{refl, ◌∙◌}
use native.Mathlib.Omega.{arith}
use borrow.Author.Rules.{rules}
use lib.ListN.{get_or}
use Rattle.table.specs.Rows.{row_count}
use Rattle.marks.specs.code.Search.{edges}
use Rattle.marks.proofs.Laws.{stands_first, stands_tail, stands_room, stands_queued, stands_next, stands_done}
use Rattle.marks.proofs.search.Goals as goal

pub loop-head-init : goal.loop-head-init
loop-head-init c = let e = c.requires in (stands_first _ _ _ _ _ e.0 e.1 (omega arith) e.7 c.visit_made.ensures.visits, (refl, refl))

pub offset_bounds-search-head : goal.offset_bounds-search-head
offset_bounds-search-head c = omega (arith, stands_tail _ _ _ c.loop-head.invariant.0)

pub bounds-search-head : goal.bounds-search-head
bounds-search-head c = let stands = c.loop-head.invariant.0 in omega (arith, stands_tail _ _ _ stands, stands_room _ _ _ stands)

pub overflow_add-head : goal.overflow_add-head
overflow_add-head c = omega (arith, stands_tail _ _ _ c.loop-head.invariant.0)

pub expand-requires : goal.expand-requires
expand-requires c =
    let e = c.requires in
    let u = get_or c.loop-head.search.queue.now c.loop-head.head 0 in
    let h = stands_queued _ _ _ c.loop-head.invariant.0 c.loop-head-test.true in
    let r : u / 32 < row_count c.args.table.now = omega (arith, h) in
    (omega (arith, e.3), omega (arith, e.2), omega arith, λ q. omega (arith, e.5 q, e.4))

pub loop-head-smaller : goal.loop-head-smaller
loop-head-smaller c = omega (arith, stands_tail _ _ _ c.loop-head.invariant.0)

pub loop-head-preserved : goal.loop-head-preserved
unfolding edges
loop-head-preserved c =
    let e = c.requires in
    let v = c.expand.ensures in
    let same = c.loop-head.invariant.1 in
    (stands_next _ _ _ c.loop-head.invariant.0 e.6 (omega (arith, e.2)) c.loop-head-test.true v.visits, (v.same_slices.0 ∙ same.0, v.same_slices.1 ∙ same.1))

pub returns : goal.returns
returns c = let done = stands_done _ _ _ c.loop-head.invariant.0 (omega arith) in search (rules, done)
