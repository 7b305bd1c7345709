use lib.Seq.{take_all}
use mathlib.Core.Path.{ap}
use Rattle.text.proofs.Placing.{puts_none, puts_more, puts_same}
use Rattle.store_text.proofs.Laws.{lines-none, lines_more}
use Rattle.store_text.proofs.put_lines.Invariants.{lines}
use Rattle.store_text.proofs.put_lines.Goals as goal

pub loop-i-init : goal.loop-i-init
loop-i-init c = puts_same (lines-none _) (puts_none _)

pub loop-i-preserved : goal.loop-i-preserved
loop-i-preserved c = puts_same (lines_more _ _ _ _ c.loop-i-test.true) (puts_more c.loop-i.invariant c.put_entry.ensures)

pub returns : goal.returns
returns c = puts_same (ap (lines c.args.cells.now) (take_all _ _ c.loop-i-test.false)) c.loop-i.invariant
