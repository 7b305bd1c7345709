use Rattle.frame.proofs.control.call.Goals as goal

pub returns : goal.returns
returns c = rw (← c.parameters_of.ensures, ← c.local_count.ensures, ← c.within.ensures) c.call_with.ensures
