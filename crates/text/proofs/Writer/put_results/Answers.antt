use Rattle.std.proofs.Common.{ap}
use lib.Seq.{take_all}
use Rattle.text.proofs.Placing.{puts_none, puts_more, puts_same}
use Rattle.text.proofs.Lines.{numbers, numbers_more}
use Rattle.text.proofs.Writer.put_results.Goals as goal

pub loop-n-init : goal.loop-n-init
loop-n-init c = puts_none _

pub loop-n-preserved : goal.loop-n-preserved
loop-n-preserved c = puts_same (numbers_more _ _ c.loop-n-test.true) (puts_more c.loop-n.invariant c.put_number.ensures)

pub returns : goal.returns
returns c = puts_same (ap numbers (take_all _ _ c.loop-n-test.false)) c.loop-n.invariant
