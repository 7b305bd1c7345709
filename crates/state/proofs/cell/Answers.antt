use mathlib.Core.Path.{◌∙◌, sym}
use borrow.Author.Rules.{rules}
use Rattle.state.proofs.Cells.{cells_at, read_out}
use Rattle.state.proofs.cell.Goals as goal

pub returns-then-o-cells : goal.returns-then-o-cells
returns-then-o-cells c = c.value_of.ensures ∙ sym (cells_at _ _ (search rules))

pub returns : goal.returns
returns c = read_out _ _ (search rules)
