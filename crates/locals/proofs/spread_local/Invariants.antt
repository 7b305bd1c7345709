-- The invariant: the search from the status at the start follows local l at instruction i with status x.
use Prim.Native.Nat.{◌+◌, ◌-◌, ◌*◌, ◌<◌}
use Rattle.reach.specs.Reach.{count_true}
use Rattle.reach.specs.code.Search.{SameSlices}
use Rattle.table.specs.Rows.{row_count}
use Rattle.locals.proofs.Laws.{Spreading}
use Rattle.locals.proofs.spread_local.Given as goal

abbrev pub invariant-loop-next : goal.invariant-loop-next
invariant-loop-next l = Spreading l.code l.params l.l l.search.visited.now l.search.queue.now l.head l.search.tail l.i l.x × (l.i < row_count l.code) × (l.x < 2) × SameSlices l.initial.search l.search

-- each time round a node is entered, or one is taken from the queue
abbrev pub decreases-loop-next : goal.decreases-loop-next
decreases-loop-next l = (2 * row_count l.code - count_true l.search.visited.now) + (2 * row_count l.code - l.head)
