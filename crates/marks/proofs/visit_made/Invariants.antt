-- The invariant: what is left to visit is where marks are made at the rows above row r.
use mathlib.Core.Path.{◌≡◌}
use Rattle.reach.specs.code.Search.{state, SameSlices, visit_all}
use Rattle.table.specs.Rows.{row_count}
use Rattle.helpers.specs.Rounds.{up_to}
use Rattle.marks.specs.code.Search.{made_at}
use Rattle.marks.proofs.visit_made.Given as goal

abbrev pub invariant-loop-r : goal.invariant-loop-r
invariant-loop-r l = (visit_all (state l.initial.search) (up_to (made_at l.table l.index l.entries l.arrives) (row_count l.table)) ≡ visit_all (state l.search) (up_to (made_at l.table l.index l.entries l.arrives) l.r))
    × SameSlices l.initial.search l.search
