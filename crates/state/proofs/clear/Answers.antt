use borrow.Author.Rules.{rules}
use Rattle.state.proofs.Cells.{cells_clear, put-out}
use Rattle.state.proofs.clear.Goals as goal

pub returns-then-o-cells : goal.returns-then-o-cells
returns-then-o-cells c = cells_clear _ _

pub returns-else-o-cells : goal.returns-else-o-cells
returns-else-o-cells c = put-out _ _ (search rules) _
