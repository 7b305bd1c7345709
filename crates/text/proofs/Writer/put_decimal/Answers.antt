use Rattle.std.proofs.Common.{◌∙◌, arith}
use Rattle.text.proofs.Decimal.{same_decimal}
use Rattle.text.proofs.Placing.{puts_same}
use Rattle.text.proofs.Writer.put_decimal.Goals as goal

pub returns : goal.returns
returns c = puts_same (c.as_bytes.ensures.value ∙ c.format.ensures.text ∙ same_decimal _ (omega arith)) c.put_word.ensures
