-- The space and the parenthesis, and then the type.
use Rattle.semantics.specs.Ascii.{ascii}
use Rattle.text.proofs.Placing.{puts_more}
use Rattle.store_text.proofs.put_type.Goals as goal

pub returns : goal.returns
unfolding ascii
returns c = puts_more c.put_word.ensures (rw c.from.ensures at c.put_decimal.ensures)
