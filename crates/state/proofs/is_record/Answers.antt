use mathlib.Core.Path.{sym}
use Rattle.state.proofs.Cells.{record_told}
use Rattle.state.proofs.is_record.Goals as goal

pub returns : goal.returns
returns c = rw c.has_tag.ensures (sym (record_told _ _))
