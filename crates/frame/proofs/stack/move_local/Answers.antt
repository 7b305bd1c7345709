use Rattle.frame.proofs.stack.move_local.Goals as goal

pub returns : goal.returns
returns c = rw (c.next.ensures, c.load-next.ensures.0, c.clear.ensures, c.load-next.ensures.1)
