use borrow.Author.Tests.{eq-eqb, ne_eqb}
use Rattle.frame.proofs.control.ret.Goals as goal

pub returns-then-s-eq0 : goal.returns-then-s-eq0
returns-then-s-eq0 c = rw (eq-eqb _ 0 c.if-s-eq0.true, c.ended.ensures)

pub returns : goal.returns
returns c = rw (← c.results_of.ensures, ← c.return_to.ensures, ne_eqb _ 0 c.if-s-eq0.false)
