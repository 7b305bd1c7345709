use Rattle.state.proofs.Coding.{local_back}
use Rattle.state.proofs.local_word.Goals as goal

pub returns : goal.returns
returns c = rw c.packed.ensures.0 (local_back _ _ _ _ c.packed.ensures.1)
