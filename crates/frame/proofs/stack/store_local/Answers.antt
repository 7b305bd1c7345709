use Rattle.frame.proofs.stack.store_local.Goals as goal

pub returns : goal.returns
returns c = rw (c.next.ensures, c.store.ensures.0, c.store.ensures.1)
