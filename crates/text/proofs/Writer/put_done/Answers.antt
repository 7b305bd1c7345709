-- The parts of the line, one after the other.
use Rattle.semantics.specs.Ascii.{ascii}
use Rattle.text.proofs.Placing.{puts_more, puts_same}
use Rattle.text.proofs.Lines.{done-line}
use Rattle.text.proofs.Writer.put_done.Goals as goal

pub returns : goal.returns
unfolding ascii
returns c row s =
    puts_same (done-line c.args.call row c.args.results.now s)
    (puts_more (puts_more (puts_more c.put_call.ensures c.put_word.ensures) c.put_results.ensures) c.put_byte.ensures)
