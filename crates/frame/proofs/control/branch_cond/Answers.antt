use borrow.Author.Tests.{eq-eqb, ne_eqb}
use Rattle.frame.proofs.control.branch_cond.Goals as goal

pub returns-then-not-has_number : goal.returns-then-not-has_number
returns-then-not-has_number c = rw (← c.has_number.ensures, c.if-not-has_number.true, c.ended.ensures)

pub returns-then-number-eq0 : goal.returns-then-number-eq0
returns-then-number-eq0 c = rw (← c.has_number.ensures, c.if-not-has_number.false, ← c.number.ensures, eq-eqb _ 0 c.if-number-eq0.true, c.next.ensures, c.drop_top.ensures)

pub returns : goal.returns
returns c = rw (← c.has_number.ensures, c.if-not-has_number.false, ← c.number.ensures, ne_eqb _ 0 c.if-number-eq0.false, c.go_to.ensures, c.drop_top-2.ensures)
