use Rattle.state.proofs.frames.State.drop_top.Goals as goal

pub returns : goal.returns
returns c = rw c.rest.ensures
