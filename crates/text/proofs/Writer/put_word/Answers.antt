use lib.Seq.{take_all}
use Rattle.text.proofs.Placing.{puts_none, puts_next, puts_same}
use Rattle.text.proofs.Writer.put_word.Goals as goal

pub loop-b-init : goal.loop-b-init
loop-b-init c = puts_none _

pub loop-b-preserved : goal.loop-b-preserved
loop-b-preserved c = puts_next _ _ c.loop-b-test.true c.loop-b.invariant c.put_byte.ensures

pub returns : goal.returns
returns c = puts_same (take_all _ _ c.loop-b-test.false) c.loop-b.invariant
