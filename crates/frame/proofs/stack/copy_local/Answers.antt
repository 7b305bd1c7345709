use Rattle.frame.proofs.stack.copy_local.Goals as goal

pub returns : goal.returns
returns c = rw (c.next.ensures, c.load.ensures.0, c.load.ensures.1)
