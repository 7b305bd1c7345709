use Rattle.calls.proofs.is_private.Goals as goal

pub returns : goal.returns
returns c = rw (← c.row_at.ensures)
