use Rattle.interpreter.proofs.keep_memory.Goals as goal

pub returns : goal.returns
returns c = rw (← c.keep.ensures) c.keep-2.ensures
