use borrow.Author.Rules.{rules}
use Rattle.state.proofs.Cells.{cells_copy, copy_none}
use Rattle.state.proofs.copy.Goals as goal

pub returns-then-p-cells : goal.returns-then-p-cells
returns-then-p-cells c = cells_copy _ _ _ _ (search rules) c.put.ensures

pub returns-else-p-cells : goal.returns-else-p-cells
returns-else-p-cells c = copy_none _ _ (search rules) _
