use borrow.Author.Rules.{rules}
use native.Mathlib.Omega.{arith}
use lib.ListN.{length-set}
use Rattle.state.proofs.Cells.{cells_set, put-out}
use Rattle.state.proofs.put.Goals as goal

pub bounds-cells-at-then-o-cells : goal.bounds-cells-at-then-o-cells
bounds-cells-at-then-o-cells c = simp length-set (omega arith)

pub returns-then-o-cells : goal.returns-then-o-cells
returns-then-o-cells c = cells_set _ _ _ _

pub returns-else-o-cells : goal.returns-else-o-cells
returns-else-o-cells c = put-out _ _ (search rules) _
