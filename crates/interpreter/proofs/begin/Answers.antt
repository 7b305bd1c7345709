use Rattle.interpreter.proofs.begin.Goals as goal

pub returns : goal.returns
returns c = rw c.next_serial.ensures
