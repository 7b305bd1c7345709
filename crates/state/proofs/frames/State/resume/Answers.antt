use borrow.Author.Tests.{ne_eqb}
use Rattle.state.proofs.Tests.{tests}
use Rattle.state.proofs.frames.State.resume.Goals as goal

pub returns-then-self-eq0 : goal.returns-then-self-eq0
returns-then-self-eq0 c = search tests

pub returns : goal.returns
returns c = rw (ne_eqb _ _ c.if-self-eq0.false, ← c.suspended_cell-o.ensures, c.first_at.ensures, c.number_at-n.ensures, c.second_at.ensures, c.third_at.ensures)
