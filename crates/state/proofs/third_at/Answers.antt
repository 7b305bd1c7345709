use mathlib.Core.Path.{sym}
use Rattle.state.proofs.Cells.{third_in}
use Rattle.state.proofs.third_at.Goals as goal

pub returns : goal.returns
returns c = rw c.word_at.ensures (sym (third_in _ _))
