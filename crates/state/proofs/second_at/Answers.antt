use mathlib.Core.Path.{sym}
use Rattle.state.proofs.Cells.{second_in}
use Rattle.state.proofs.second_at.Goals as goal

pub returns : goal.returns
returns c = rw c.word_at.ensures (sym (second_in _ _))
