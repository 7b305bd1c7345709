use Rattle.frame.proofs.control.return_to.Goals as goal

pub returns : goal.returns
returns c = rw (c.next.ensures, c.receive-next.ensures.0, c.receive-next.ensures.1, c.resume-caller.ensures, c.operand_cell.ensures, c.drop_top-rest.ensures)
