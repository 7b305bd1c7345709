use Rattle.frame.proofs.operations.settle.Goals as goal

pub returns : goal.returns
returns c = rw (c.next.ensures, c.push.ensures.0, c.push.ensures.1, c.drop_top.ensures)
