use Rattle.semantics.specs.Ascii.{ascii}
use Rattle.text.proofs.Placing.{puts_more}
use Rattle.text.proofs.Writer.put_number.Goals as goal

pub returns : goal.returns
unfolding ascii
returns c = puts_more c.put_byte.ensures c.put_decimal.ensures
