-- The invariant: the search from the first instructions stands so, with no row followed.
use Prim.Native.Nat.{◌-◌}
use Rattle.reach.specs.code.Search.{SameSlices}
use Rattle.table.specs.Rows.{row_count}
use Rattle.helpers.specs.Rounds.{up_to}
use Rattle.marks.specs.code.Search.{rows_after, first_at}
use Rattle.marks.proofs.Laws.{Stands}
use Rattle.marks.proofs.find_arrivals.Given as goal

abbrev pub invariant-loop-head : goal.invariant-loop-head
invariant-loop-head l = Stands (rows_after l.table l.entries) (row_count l.table) (up_to (first_at l.table l.entries) (row_count l.table)) l.search.visited.now l.search.queue.now l.head l.search.tail
    × SameSlices l.initial.search l.search

abbrev pub decreases-loop-head : goal.decreases-loop-head
decreases-loop-head l = row_count l.table - l.head
