use Prim.Native.Nat.{ℕ}
use mathlib.Core.Path.{refl, ap, ◌∙◌}
use mathlib.Core.Bool.{false}
use native.Mathlib.Omega.{arith}
use borrow.Author.Rules.{rules}
use lib.ListN.{replicate}
use Rattle.reach.proofs.Laws.{count-le}
use Rattle.locals.proofs.Laws.{start-below, after-below, local-start, local-sized, local-still, local-rests, local-tail, local-room, local-queued, local-next, local-found}
use Rattle.locals.proofs.spread_local.Goals as goal

pub loop-next-init : goal.loop-next-init
loop-next-init c =
    let a = c.args in
    let e = c.start_status-x.ensures in (
      rw e (local-start a.code.now a.params a.l a.queue.now _ (omega (arith, c.requires)) (omega (arith, c.requires)) (omega (arith, c.requires)) (c.clear.ensures ∙ ap (λ (k : ℕ). replicate k false) c.requires.0) (rw e at c.enter.ensures.enters)),
      omega (arith, c.requires),
      rw e (start-below a.params a.l),
      (refl, refl),
    )

pub overflow_cast-y : goal.overflow_cast-y
overflow_cast-y c = omega (arith, c.status_after-y.ensures, after-below c.row_at-row.result c.args.l c.loop-next.x c.loop-next.invariant.2)

pub go_on-on-requires : goal.go_on-on-requires
go_on-on-requires c = let l = c.loop-next in (local-sized _ _ _ l.i l.x l.invariant.0, omega (arith, c.requires), omega (arith, l.invariant.1, c.requires))

-- the search goes on to a node that is new
pub loop-next-smaller-in-Some : goal.loop-next-smaller-in-Some
loop-next-smaller-in-Some c =
    let l = c.loop-next in
    let on = c.in-Some.ensures.on in
    omega (arith, (on.new _ refl).0, count-le c.go_on-on.new.search.visited.now, on.sized.0, local-sized _ _ _ l.i l.x l.invariant.0)

pub loop-next-preserved-in-Some : goal.loop-next-preserved-in-Some
loop-next-preserved-in-Some c =
    let l = c.loop-next in
    let inv = l.invariant in
    let on = c.in-Some.ensures.on in
    let same = c.go_on-on.ensures.same_slices in (
      local-still _ _ _ inv.0 (omega (arith, c.requires)) inv.1 inv.2 c.row_at-row.ensures c.status_after-y.ensures on,
      (on.new _ refl).1,
      rw c.status_after-y.ensures (after-below c.row_at-row.result _ _ inv.2),
      (same.0 ∙ inv.3.0, same.1 ∙ inv.3.1),
    )

-- it takes a node from the queue, or ends
pub returns-then-search-head : goal.returns-then-search-head
returns-then-search-head c =
    let l = c.loop-next in
    let inv = l.invariant in
    let found = local-found _ _ _ (local-rests _ _ _ inv.0 (omega (arith, c.requires)) inv.1 inv.2 c.row_at-row.ensures c.status_after-y.ensures c.in_default.ensures.on) c.if-search-head.true in
    search (rules, found)

pub offset_bounds-search-head : goal.offset_bounds-search-head
offset_bounds-search-head c =
    let l = c.loop-next in
    let inv = l.invariant in
    let state = local-rests _ _ _ inv.0 (omega (arith, c.requires)) inv.1 inv.2 c.row_at-row.ensures c.status_after-y.ensures c.in_default.ensures.on in
    omega (arith, c.if-search-head.false, local-tail _ _ _ state, c.requires)

pub bounds-search-head : goal.bounds-search-head
bounds-search-head c =
    let l = c.loop-next in
    let inv = l.invariant in
    let state = local-rests _ _ _ inv.0 (omega (arith, c.requires)) inv.1 inv.2 c.row_at-row.ensures c.status_after-y.ensures c.in_default.ensures.on in
    omega (arith, c.if-search-head.false, local-tail _ _ _ state, local-room _ _ _ state)

pub overflow_add-head : goal.overflow_add-head
overflow_add-head c =
    let l = c.loop-next in
    let inv = l.invariant in
    let state = local-rests _ _ _ inv.0 (omega (arith, c.requires)) inv.1 inv.2 c.row_at-row.ensures c.status_after-y.ensures c.in_default.ensures.on in
    omega (arith, c.if-search-head.false, local-tail _ _ _ state, c.requires)

pub loop-next-smaller : goal.loop-next-smaller
loop-next-smaller c =
    let l = c.loop-next in
    let inv = l.invariant in
    let on = c.in_default.ensures.on in
    let state = local-rests _ _ _ inv.0 (omega (arith, c.requires)) inv.1 inv.2 c.row_at-row.ensures c.status_after-y.ensures on in
    omega (arith, c.if-search-head.false, local-tail _ _ _ state, on.grown)

pub loop-next-preserved : goal.loop-next-preserved
loop-next-preserved c =
    let l = c.loop-next in
    let inv = l.invariant in
    let same = c.go_on-on.ensures.same_slices in
    let state = local-rests _ _ _ inv.0 (omega (arith, c.requires)) inv.1 inv.2 c.row_at-row.ensures c.status_after-y.ensures c.in_default.ensures.on in (
      local-next _ _ _ state c.if-search-head.false,
      omega (arith, local-queued _ _ _ state c.if-search-head.false),
      omega arith,
      (same.0 ∙ inv.3.0, same.1 ∙ inv.3.1),
    )
