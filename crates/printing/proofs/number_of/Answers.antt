use mathlib.Core.Path.{◌∙◌}
use Rattle.laws.proofs.Numbers.{le-bytes_4}
use Rattle.printing.proofs.number_of.Goals as goal

pub returns : goal.returns
returns c = c.from_le_bytes.ensures ∙ le-bytes_4 c.args.head.now 0 0
