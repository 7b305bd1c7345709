use mathlib.Core.Path.{sym}
use Rattle.state.proofs.Cells.{number-in}
use Rattle.state.proofs.number_at.Goals as goal

pub returns : goal.returns
returns c = rw c.word_at.ensures (sym (number-in _ _))
