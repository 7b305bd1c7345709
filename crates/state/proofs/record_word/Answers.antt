use Rattle.state.proofs.Coding.{record_back, whole_back}
use Rattle.state.proofs.record_word.Goals as goal

pub returns : goal.returns
returns c = rw c.packed.ensures.0 (record_back _ _ _ 0 c.packed.ensures.1, whole_back _ _ _ 0 c.packed.ensures.1)
