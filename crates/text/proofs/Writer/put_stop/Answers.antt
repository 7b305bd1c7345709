-- The parts of the line, one after the other.
use Rattle.semantics.specs.Ascii.{ascii}
use Rattle.text.proofs.Placing.{puts_more, puts_same}
use Rattle.text.proofs.Lines.{stop_line}
use Rattle.text.proofs.Writer.put_stop.Goals as goal

pub returns : goal.returns
unfolding ascii
returns c =
    let number = rw c.from.ensures at c.put_number.ensures in
    puts_same (stop_line c.args.call c.args.number c.args.row)
    (puts_more (puts_more (puts_more (puts_more (puts_more c.put_call.ensures c.put_word.ensures) number) c.put_word-2.ensures) c.put_number-2.ensures) c.put_byte.ensures)
