use mathlib.Core.Path.{sym}
use Rattle.state.proofs.Cells.{number-told}
use Rattle.state.proofs.is_number.Goals as goal

pub returns : goal.returns
returns c = rw c.has_tag.ensures (sym (number-told _ _))
