use mathlib.Core.Path.{sym}
use Rattle.state.proofs.Cells.{first_in}
use Rattle.state.proofs.first_at.Goals as goal

pub returns : goal.returns
returns c = rw c.word_at.ensures (sym (first_in _ _))
