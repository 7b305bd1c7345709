use Rattle.std.proofs.Common.{rules}
use Rattle.printing.proofs.PartLemmas.{first_number-read}
use Rattle.printing.proofs.next_number.Goals as goal

pub returns-clause-number : goal.returns-clause-number
returns-clause-number g c =
    let read = c.in_ok-read_whole.ensures in
    first_number-read (g.R.Read.remaining c.args.file.now) c.read_whole.new.room 4 c.number_of.result c.in_ok-read_whole.field-0
    (search rules) read.whole (search rules) (read.bytes (search rules)) c.number_of.ensures
