use borrow.Author.Tests.{le-leb, lt-leb}
use Rattle.frame.proofs.control.call_with.Goals as goal

pub returns-then-s-ge15 : goal.returns-then-s-ge15
returns-then-s-ge15 c = rw (c.ended.ensures, le-leb 15 _ c.if-s-ge15.true)

pub returns : goal.returns
returns c = rw (lt-leb 15 _ c.if-s-ge15.false, c.enter.ensures.0, c.enter.ensures.1, c.suspend.ensures, c.drop_top-caller.ensures)
