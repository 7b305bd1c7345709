-- The first j of the fields are put. The two end, since the depth falls.
use Rattle.std.proofs.Common.{ℕ, ◌+◌, ◌*◌, ◌-◌, List}
use Rattle.state.specs.code.Cells.{cells_of}
use Rattle.machine.specs.code.Lists.{mvalues, mfields}
use Rattle.machine.specs.code.Views.{up_from, rooms_in}
use Rattle.text.specs.code.Placing.{Puts}
use Rattle.store_text.proofs.+put_fields_put_operand.Given as goal

-- the first j of the fields from cell o + 1 on, of a record at this depth
abbrev pub first : List ℕ → ℕ → ℕ → ℕ → List ℕ
first cells depth o j = mvalues (mfields (depth - 1) (rooms_in (cells_of cells))) (up_from (cells_of cells) (o + 1) j)

abbrev pub decreases-put_fields : goal.decreases-put_fields
decreases-put_fields l = 2 * l.depth

abbrev pub decreases-put_operand : goal.decreases-put_operand
decreases-put_operand l = 2 * l.depth + 1

abbrev pub invariant-put_fields-loop-j : goal.invariant-put_fields-loop-j
invariant-put_fields-loop-j l = Puts l.initial.writer (first l.cells l.depth l.o l.j) l.writer
