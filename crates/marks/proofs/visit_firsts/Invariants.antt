-- The invariant: what is left to visit is the first instructions of the procedures above row r.
use mathlib.Core.Path.{◌≡◌}
use Rattle.reach.specs.code.Search.{state, SameSlices, visit_all}
use Rattle.table.specs.Rows.{row_count}
use Rattle.helpers.specs.Rounds.{up_to}
use Rattle.marks.specs.code.Search.{first_at}
use Rattle.marks.proofs.visit_firsts.Given as goal

abbrev pub invariant-loop-r : goal.invariant-loop-r
invariant-loop-r l = (visit_all (state l.initial.search) (up_to (first_at l.table l.entries) (row_count l.table)) ≡ visit_all (state l.search) (up_to (first_at l.table l.entries) l.r))
    × SameSlices l.initial.search l.search
