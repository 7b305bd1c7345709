use Rattle.frame.proofs.stack.borrow_local.Goals as goal

pub returns : goal.returns
returns c = rw (c.next.ensures, c.push.ensures.0, c.push.ensures.1, c.local_word-w.ensures, c.kind_of_local.ensures)
