use borrow.Author.Tests.{lt-leb, le-leb}
use Rattle.running.proofs.results_of.Goals as goal

pub returns-then-h-k : goal.returns-then-h-k
returns-then-h-k c = rw (lt-leb _ _ c.if-h-k.true)

pub returns : goal.returns
returns c = rw (le-leb _ _ c.if-h-k.false, c.number_at.ensures, c.number_at-2.ensures, c.number_at-3.ensures, c.number_at-4.ensures)
