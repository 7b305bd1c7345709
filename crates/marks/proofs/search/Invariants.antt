-- The invariant: the search from where marks are made stands so, with no node followed.
use Prim.Native.Nat.{◌-◌, ◌*◌}
use Rattle.reach.specs.code.Search.{SameSlices}
use Rattle.table.specs.Rows.{row_count}
use Rattle.helpers.specs.Rounds.{up_to}
use Rattle.marks.specs.code.Search.{edges, made_at}
use Rattle.marks.proofs.Laws.{Stands}
use Rattle.marks.proofs.search.Given as goal

abbrev pub invariant-loop-head : goal.invariant-loop-head
invariant-loop-head l = Stands (edges l.table l.entries l.sites.before.now l.last l.sites.arrives.now) (32 * row_count l.table) (up_to (made_at l.table l.fn.index l.entries l.sites.arrives.now) (row_count l.table)) l.search.visited.now l.search.queue.now l.head l.search.tail
    × SameSlices l.initial.search l.search

abbrev pub decreases-loop-head : goal.decreases-loop-head
decreases-loop-head l = 32 * row_count l.table - l.head
