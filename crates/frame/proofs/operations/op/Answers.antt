use Rattle.frame.proofs.operations.op.Goals as goal

pub returns : goal.returns
returns c = rw (← c.operated.ensures) c.close.ensures
